-- The definitions of closed lists and of reading, with laws and worked examples.
pub mod Reading
pub mod Laws
pub mod Closing
pub mod Seen
pub mod Lawful
pub mod ClosingLaws
pub mod worked
