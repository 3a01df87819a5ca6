pub mod Along
pub mod Definitions
pub mod Finding
pub mod Lists
pub mod Pairs
pub mod Views
pub mod Unlabelled
