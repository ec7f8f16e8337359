pub mod Fixes
pub mod AllFixes
pub mod Tries
pub mod Rounds
