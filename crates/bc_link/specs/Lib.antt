pub mod Labels
pub mod Layout
pub mod Store
pub mod Refusals
pub mod Linked
pub mod Laws
pub mod Steps
pub mod Drafts
