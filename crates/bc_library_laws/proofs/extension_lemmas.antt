-- Lemmas for the laws about the extension library.
pub mod Frames
pub mod Tests
pub mod Finding
pub mod Unpacking
pub mod Octal
pub mod Comparing
pub mod Packing
pub mod Numbers
pub mod Joined
pub mod Lexed
pub mod Characters
pub mod Reading
pub mod Splitting
pub mod Built
