pub mod Assays
pub mod Judged
pub mod Lines
pub mod Values
pub mod Inserts
pub mod Reports
