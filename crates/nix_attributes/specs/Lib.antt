pub mod Attributes
pub mod Repeated
pub mod DefinedNames
