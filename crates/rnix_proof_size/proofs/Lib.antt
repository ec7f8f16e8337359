pub mod Counts
pub mod Bounds
pub mod NodeBounds
pub mod EndBounds
pub mod ClosedRows
pub mod EmptyRows
pub mod LastRows
pub mod SizedReadings
