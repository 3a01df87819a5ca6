-- The definitions of the syntax tree, the grammar and the canonical spelling.
pub mod Parts
pub mod Tree
pub mod View
pub mod Operators
pub mod Spelling
pub mod Canonical
pub mod Height
pub mod Size
pub mod Laws
pub mod Examples
pub mod Adds
pub mod Rendered
