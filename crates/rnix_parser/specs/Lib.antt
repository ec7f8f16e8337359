pub mod Significant
pub mod ReadingLaws
pub mod ReadAlike
