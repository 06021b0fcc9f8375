pub mod Rising
pub mod Embedding
pub mod Cuts
pub mod Extended
pub mod GoodParts
