-- The definitions that the contracts of this crate cite.
pub mod Judged
pub mod Kept
pub mod Seen
pub mod Walked
pub mod Walk
pub mod Parts
