pub mod Sound
pub mod Ticks
