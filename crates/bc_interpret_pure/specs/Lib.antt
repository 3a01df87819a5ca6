pub mod Quick
pub mod Causes
pub mod Views
pub mod Waits
