pub mod Valofs
pub mod Marks
pub mod Words
