pub mod Days
pub mod Times
pub mod Calls
pub mod Examples
