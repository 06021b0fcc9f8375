pub mod Marks
pub mod Own
pub mod Votes
