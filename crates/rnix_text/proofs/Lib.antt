pub mod ByteSteps
pub mod MarkLemmas
pub mod PositionLemmas
pub mod MarkOffsets
pub mod ChangeLemmas
pub mod RunLemmas
pub mod InsertionLemmas
pub mod TextRows
