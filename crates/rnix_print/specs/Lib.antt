pub mod OutputLines
pub mod Printed
