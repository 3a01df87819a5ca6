-- What the programs are as resolved sections, and what they print.
pub mod Gcd
pub mod Double
pub mod Sort
pub mod Laws
