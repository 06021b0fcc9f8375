pub mod First
pub mod Named
pub mod Unbroken
