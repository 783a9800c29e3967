pub mod Drifting
pub mod NeverMilder
pub mod SeriesSteps
