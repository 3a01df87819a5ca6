pub mod Opened
pub mod Positions
pub mod Shown
pub mod ShownExamples
