pub mod Laws
pub mod Values
pub mod NoGoodDeck
pub mod Padded
