pub mod AllKinds
pub mod KindSets
pub mod LexicalLemmas
