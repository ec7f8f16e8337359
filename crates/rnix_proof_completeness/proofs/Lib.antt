pub mod OverTokens
pub mod PartReads
pub mod GoodOperands
pub mod NamesAndBraces
pub mod OperatorReadings
pub mod GrammarParts
pub mod GrammarReads
