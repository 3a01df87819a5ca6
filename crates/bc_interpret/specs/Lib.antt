pub mod Results
pub mod Serving
pub mod Moving
pub mod Tables
pub mod Starting
pub mod Placing
pub mod Interpreted
