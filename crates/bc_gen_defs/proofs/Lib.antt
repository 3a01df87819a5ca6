pub mod Plainly
pub mod Closed
pub mod Standing
