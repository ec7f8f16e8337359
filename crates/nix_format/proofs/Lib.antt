pub mod FormattedFiles
pub mod OutcomeExamples
pub mod FinishedTexts
