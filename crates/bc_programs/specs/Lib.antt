pub mod laws
pub mod source
pub mod built
pub mod library
