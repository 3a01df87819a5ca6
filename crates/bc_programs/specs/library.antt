-- What the library's routines do in a built program.
pub mod Laws
