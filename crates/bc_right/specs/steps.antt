-- How a machine step corresponds to a step of the source.
pub mod Leads
pub mod Agreement
pub mod CodeAt
pub mod Landing
pub mod Items
pub mod Goals
pub mod Premises
pub mod Keeping
pub mod Free
