pub mod Divider
