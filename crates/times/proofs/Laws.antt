pub mod Lengths
pub mod Days
pub mod Code
pub mod Valid
pub mod RoundTrip
pub mod Advance
pub mod Daylight
