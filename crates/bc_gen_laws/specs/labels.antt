-- Laws of the labels of a section's items: each is defined once.
pub mod Laws
pub mod Examples
