pub mod VisibleTokenLemmas
pub mod PlacedTokenLemmas
pub mod OutcomeLemmas
pub mod WalkStepLemmas
mod WalkStepExamples
pub mod OutlineLemmas
pub mod ValueLemmas
pub mod KeptStepLemmas
pub mod WithoutCommasLemmas
pub mod PatternPartLemmas
