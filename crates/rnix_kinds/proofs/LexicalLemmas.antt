-- Lemmas on the lexical rules.
pub mod ClassTableLemmas
pub mod CutLemmas
pub mod CutParts
pub mod FirstBytes
pub mod Laws
pub mod LongestLemmas
pub mod ModesLemmas
pub mod StringsLemmas
pub mod TokensLemmas
pub mod WordsLemmas
pub mod OperatorsLemmas
pub mod SchemeLemmas
pub mod LaneLemmas
pub mod CommentLemmas
