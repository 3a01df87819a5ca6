-- What an instruction writes, for the contracts of a trace.
pub mod Changes
pub mod Examples
pub mod Told
