-- What the parser returns: the definitions for its contracts.
pub mod Seen
pub mod SeenFollow
pub mod Partial
pub mod Names
pub mod Parsing
pub mod Canonical
