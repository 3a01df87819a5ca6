pub mod Changes
pub mod Joins
