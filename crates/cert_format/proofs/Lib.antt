pub mod Bodies
pub mod Certs
pub mod Evades
pub mod Kept
pub mod Names
pub mod Opens
pub mod Wholes
