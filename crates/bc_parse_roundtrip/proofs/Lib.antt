pub mod Numerals
pub mod Constants
pub mod Symbols
pub mod Rereading
