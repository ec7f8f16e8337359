pub mod PrefixTexts
pub mod FewSteps
pub mod ComputedReadings
pub mod RefutedLaws
pub mod DeepExamples
