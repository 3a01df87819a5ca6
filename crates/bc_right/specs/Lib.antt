pub mod steps
pub mod rules
pub mod commands
pub mod programs
pub mod sections
