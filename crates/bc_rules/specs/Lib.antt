pub mod Derivation
pub mod Code
pub mod Fits
pub mod View
pub mod Levels
pub mod Words
pub mod Adds
pub mod Examples
