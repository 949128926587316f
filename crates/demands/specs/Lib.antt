pub mod Events
pub mod HostEvents
pub mod Table
pub mod Saving
pub mod Released
