pub mod Left
pub mod Opens
pub mod Picks
pub mod Progress
