pub mod Locations
pub mod Run
pub mod Rules
pub mod Refusals
pub mod Changes
