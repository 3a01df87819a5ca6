pub mod Symbols
