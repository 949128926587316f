pub mod Bytes
pub mod Ranges
pub mod Steps
pub mod Hours
