pub mod Points
pub mod DigitRuns
pub mod PlacedParts
