pub mod Completed
pub mod AlikeStarts
pub mod ErrorsBefore
pub mod ReadAhead
