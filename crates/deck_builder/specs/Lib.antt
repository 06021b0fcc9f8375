pub mod Pattern
pub mod Runs
