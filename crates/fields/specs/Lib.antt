pub mod Modes
pub mod Bytes
pub mod Hours
pub mod Steps
