pub mod Emit
pub mod Bodies
pub mod Section
pub mod Entries
pub mod Size
pub mod Laws
pub mod Examples
pub mod worked
