pub mod Days
pub mod Daylight
pub mod Bytes
