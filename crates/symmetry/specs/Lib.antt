pub mod Reordering
pub mod Order
pub mod Counted
pub mod Ordered
