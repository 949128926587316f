pub mod Digits
pub mod Text
pub mod Events
pub mod Files
pub mod Example
