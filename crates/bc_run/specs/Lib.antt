pub mod Primitives
pub mod Runs
