pub mod Lists
pub mod Turns
pub mod Ties
pub mod Parses
pub mod Views
pub mod Canonical
