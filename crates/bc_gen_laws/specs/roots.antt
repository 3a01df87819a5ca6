-- Laws of the roots of a section: those that a walk over its commands finds.
pub mod Roots
pub mod Laws
pub mod Examples
