pub mod Arrived
pub mod Assigns
pub mod Came
pub mod Endings
pub mod Passing
pub mod Code
pub mod Sections
pub mod Stepped
