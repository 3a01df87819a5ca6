-- The extension library: its routines, its section, its texts, and the laws about it.
pub mod Routines
pub mod Extension
pub mod Laws
pub mod Reading
pub mod Texts
pub mod TextLaws
