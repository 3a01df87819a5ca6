-- The laws of scopes.
pub mod Laws
pub mod StringLaws
