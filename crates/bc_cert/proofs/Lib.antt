pub mod Fitting
pub mod Lengths
pub mod Codes
pub mod Steps
pub mod Apart
pub mod Summed
pub mod Short
