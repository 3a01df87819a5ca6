pub mod Cells
pub mod Changes
pub mod Recorded
pub mod Watched
pub mod Examples
