pub mod Converse
pub mod TokenDependentForms
pub mod RowForms
pub mod RowViews
pub mod SoundRows
