pub mod Expressions
pub mod ReadAlone
