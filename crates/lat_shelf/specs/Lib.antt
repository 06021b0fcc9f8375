pub mod Shelf
pub mod Sink
pub mod Read
pub mod Stored
pub mod Memory
