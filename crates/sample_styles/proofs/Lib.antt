pub mod SampleIds
pub mod SampleShapes
pub mod Drawn
