-- The definitions of the arithmetic of words.
pub mod Words
pub mod Laws
pub mod Mirror
