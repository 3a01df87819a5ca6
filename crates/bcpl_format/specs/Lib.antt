-- What a layout keeps.
pub mod Kept
pub mod Laws
