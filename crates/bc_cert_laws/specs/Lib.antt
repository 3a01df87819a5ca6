pub mod Judging
pub mod Entries
pub mod Faults
pub mod Written
pub mod Laws
pub mod Standing
pub mod Examples
pub mod Sample
