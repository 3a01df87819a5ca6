-- The laws of canonical spellings, and the definitions that state them.
pub mod Open
pub mod Repeated
pub mod Held
pub mod Tokens
pub mod Laws
pub mod Examples
