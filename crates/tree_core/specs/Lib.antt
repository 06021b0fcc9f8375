pub mod Rose
pub mod Reading
pub mod Nodes
pub mod Steps
pub mod Checks
pub mod Places
pub mod Walk
