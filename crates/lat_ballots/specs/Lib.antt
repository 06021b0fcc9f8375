pub mod Row
pub mod Deck
pub mod Plain
pub mod Falling
pub mod Columns
