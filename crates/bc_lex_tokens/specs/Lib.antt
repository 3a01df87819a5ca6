-- The definitions of tokens, symbols and spellings.
pub mod Spelling
pub mod Table
pub mod Token
pub mod Numbers
