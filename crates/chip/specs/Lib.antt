pub mod Chips
pub mod Calls
pub mod Rules
