pub mod PartFault
