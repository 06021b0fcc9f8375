pub mod Answer
pub mod Left
pub mod Phases
pub mod Stands
pub mod Walks
