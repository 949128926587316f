pub mod Course
pub mod Events
pub mod Ram
