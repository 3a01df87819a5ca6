pub mod Views
pub mod Passes
