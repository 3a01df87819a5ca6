pub mod Products
pub mod Mirrors
pub mod Shifts
pub mod Division
