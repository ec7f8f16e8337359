mod AnyParts
pub mod ChainLemmas
pub mod RecursionLemmas
mod KindParts
pub mod SameParts
mod SameTree
mod ChildKinds
mod WholeLemmas
mod ParenthesesLemmas
