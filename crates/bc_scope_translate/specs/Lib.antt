-- Definitions that the proof of the translation needs; a reader of the contract needs only `core_of` of bc_scope_defs.
pub mod Seen
pub mod Definitions
pub mod Finding
pub mod Next
