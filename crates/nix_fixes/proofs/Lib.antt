pub mod ErrorCounts
pub mod FixLemmas
pub mod NoteLemmas
mod FixExamples
