pub mod Sizes
pub mod Assembled
pub mod Laws
