pub mod Guidelines
pub mod Choices
pub mod Piles
pub mod Reasons
pub mod Reading
pub mod PileLaws
