-- What it means that a linked program is right.
pub mod Linked
pub mod Examples
