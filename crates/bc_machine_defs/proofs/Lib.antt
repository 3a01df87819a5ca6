pub mod Stops
pub mod Runs
pub mod Bytes
pub mod Operators
