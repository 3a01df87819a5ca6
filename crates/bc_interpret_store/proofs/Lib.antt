pub mod Cells
pub mod Deltas
pub mod Following
pub mod Watching
