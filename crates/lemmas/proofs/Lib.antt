pub mod Counting
pub mod Sides
pub mod DoubleSums
pub mod Ranges
pub mod Below
