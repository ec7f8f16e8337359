pub mod Positions
pub mod Marks
pub mod TextColumns
pub mod Changes
pub mod Edit
pub mod Runs
pub mod Causes
