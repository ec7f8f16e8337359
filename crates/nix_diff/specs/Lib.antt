pub mod Diff
pub mod Applied
pub mod Hunks
pub mod Unified
