pub mod Table
pub mod Limits
pub mod Deviations
pub mod Examples
