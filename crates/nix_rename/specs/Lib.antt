pub mod Refused
pub mod Changed
pub mod Renamed
