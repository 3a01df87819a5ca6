pub mod Moving
pub mod Serving
pub mod Tables
pub mod Starting
pub mod Placing
pub mod Meanings
