pub mod Bits
pub mod With
pub mod Lines
pub mod Locations
pub mod Access
pub mod Calls
