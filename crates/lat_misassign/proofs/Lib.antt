pub mod Identity
pub mod Counts
pub mod Valid
pub mod Swaps
pub mod Exchanges
