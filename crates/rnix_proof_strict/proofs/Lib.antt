pub mod GrammarLeaves
pub mod DepthExamples
