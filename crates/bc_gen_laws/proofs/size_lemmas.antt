pub mod Takes
pub mod Within
pub mod Fills
pub mod Commands
pub mod Sections
