pub mod Attacks
pub mod Exchanged
pub mod PlainRobust
