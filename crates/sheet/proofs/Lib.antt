pub mod Below
pub mod FirstOf
pub mod Text
pub mod Accepted
