pub mod BlankLemmas
pub mod RestOfLineLemmas
pub mod StepLemmas
pub mod PassedLemmas
pub mod CheckLemmas
pub mod EditLemmas
pub mod OneChange
mod EditExamples
mod AloneExamples
pub mod StepsShown
pub mod SameTreeLemmas
pub mod AloneLemmas
