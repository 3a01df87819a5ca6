pub mod Valofs
pub mod Waits
