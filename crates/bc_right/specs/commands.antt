-- What it means that the code of commands, calls and routines is right.
pub mod Levelled
pub mod Exits
pub mod Calls
pub mod Library
pub mod Section
pub mod Whole
