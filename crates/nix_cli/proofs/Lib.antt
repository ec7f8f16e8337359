pub mod AppendLemmas
pub mod PlainRuns
mod JsonBytes
mod ExcerptLemmas
pub mod CountedLocations
pub mod ProcessedLemmas
