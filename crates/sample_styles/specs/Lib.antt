pub mod Drawing
pub mod SampleStyles
