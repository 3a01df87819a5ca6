-- What it means that the code of a derivation is right.
pub mod Right
pub mod Single
pub mod Examples
