pub mod Habits
pub mod Memory
pub mod Outcome
pub mod Turn
