pub mod CommandLine
pub mod Excerpt
pub mod Given
pub mod JsonString
pub mod KnownTexts
pub mod MessageLocations
pub mod Statuses
