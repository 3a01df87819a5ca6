-- The texts of the programs, and that they are these sections.
pub mod Texts
pub mod Tree
pub mod Laws
