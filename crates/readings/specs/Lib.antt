pub mod Turn
pub mod Structural
