pub mod Placed
pub mod State
pub mod PatternNames
pub mod Erase
pub mod FrameSteps
pub mod Reported
pub mod Performed
pub mod Holds
