pub mod Lowers
pub mod RobustTrees
pub mod Claims
pub mod Faults
