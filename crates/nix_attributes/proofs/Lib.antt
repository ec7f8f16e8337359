pub mod DefinedNamesLemmas
pub mod TableLemmas
pub mod RepeatedLemmas
pub mod RepeatedExamples
