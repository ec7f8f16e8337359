-- The lexical rules: which tokens a text has.
pub mod Texts
pub mod Classes
pub mod ClassTable
pub mod Plain
pub mod Strings
pub mod Paths
pub mod Numbers
pub mod Operators
pub mod Tokens
pub mod Ahead
pub mod PathKinds
pub mod Longest
pub mod Lanes
