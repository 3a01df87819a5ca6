pub mod Pairs
pub mod Front
pub mod Bytes
pub mod Seen
pub mod Lengths
pub mod Unset
pub mod Growing
pub mod Standing
