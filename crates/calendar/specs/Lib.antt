pub mod Bytes
pub mod Days
pub mod Advance
pub mod Daylight
pub mod Update
