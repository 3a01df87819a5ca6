pub mod Minima
pub mod Least
pub mod Cuts
pub mod Pops
pub mod Derived
pub mod Nodes
