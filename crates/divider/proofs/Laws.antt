-- The laws of the divider, which crates above may cite.
pub mod Numbers
pub mod Count
pub mod Base
pub mod Selected
pub mod Keeps
pub mod Tap
pub mod Formula
pub mod Examples
