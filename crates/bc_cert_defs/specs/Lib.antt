pub mod Verdict
pub mod Against
pub mod View
pub mod Text
