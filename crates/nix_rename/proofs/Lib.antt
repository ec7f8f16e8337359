pub mod ChangedLemmas
pub mod RenamedLemmas
