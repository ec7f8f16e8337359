pub mod LineBeforeLemmas
pub mod DeadLemmas
pub mod RemovalLemmas
pub mod AppliedLemmas
pub mod ReferenceLemmas
pub mod EditingLemmas
pub mod ReportedNames
