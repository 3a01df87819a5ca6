-- The definitions that the contract of `resolve` cites.
pub mod Resolving
