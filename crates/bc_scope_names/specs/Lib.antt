-- The definitions of scopes, and what their proofs need.
pub mod Known
pub mod View
pub mod Crossing
pub mod Index
pub mod Priors
pub mod Kinds
