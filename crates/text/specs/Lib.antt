pub mod Parts
pub mod PartsLeft
pub mod Numbers
