-- The definitions that the contract of `fault_place` cites.
pub mod Named
