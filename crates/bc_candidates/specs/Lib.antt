pub mod Beginnings
pub mod Aims
pub mod Laws
pub mod Lists
pub mod Below
pub mod Examples
