pub mod Bracketed
pub mod LevelsAround
pub mod Reparsed
