pub mod ParsedLemmas
pub mod Found
pub mod OneReading
pub mod Witnesses
pub mod SignificantTrees
pub mod AlikeTexts
pub mod SizedTexts
