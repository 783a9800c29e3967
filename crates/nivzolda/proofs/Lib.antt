pub mod InsertSteps
pub mod RowsMeant
pub mod SeriesOver
pub mod TwoDigits
