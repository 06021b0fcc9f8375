pub mod Exact
pub mod Head
pub mod PartList
pub mod Reading
pub mod Rows
pub mod Spelling
pub mod TreeReading
pub mod Trees
