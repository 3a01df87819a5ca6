pub mod Programs
pub mod Resolving
