pub mod Chosen
pub mod Parts
pub mod Room
pub mod Surroundings
pub mod Writing
