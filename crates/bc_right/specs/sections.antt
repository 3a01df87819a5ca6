-- What it means that the code of a list of sections is right.
pub mod Whole
