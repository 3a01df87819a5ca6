pub mod OnTrees
pub mod Kept
pub mod Stacks
pub mod Steps
pub mod Waits
