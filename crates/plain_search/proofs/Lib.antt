pub mod Fronts
pub mod Tried
pub mod Decks
