-- Worked examples of scopes: which names are in scope where, faults in text order, frames, the translation, and the
-- meaning of a section. They are lemmas whose proof is a computation.
pub mod Written
pub mod Counting
pub mod Addresses
pub mod Names
pub mod Places
pub mod Constants
pub mod TextOrder
pub mod Sizes
pub mod Translations
pub mod Runs
