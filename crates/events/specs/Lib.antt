pub mod Events
pub mod Text
pub mod Files
