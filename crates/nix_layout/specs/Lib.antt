pub mod StoredNumbers
pub mod Pieces
pub mod Indentation
pub mod Fitting
