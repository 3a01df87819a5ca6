-- The laws of reading text back.
pub mod Rereads
