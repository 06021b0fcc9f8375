pub mod Sources
pub mod SourceFault
