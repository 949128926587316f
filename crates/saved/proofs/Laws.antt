pub mod Parts
pub mod Bits
pub mod Rules
pub mod RoundTrip
pub mod Calls
pub mod Examples
