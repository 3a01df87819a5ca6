pub mod Names
pub mod Kept
pub mod Extends
pub mod Lets
pub mod Counts
