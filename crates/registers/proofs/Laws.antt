pub mod Bits
pub mod Access
pub mod Sound
