-- Worked examples of what resolved trees mean: form by form, the order of evaluation, turns, primitives, maps, and
-- what each section keeps. They are lemmas whose proof is a computation.
pub mod Written
pub mod Loops
pub mod Programs
pub mod Order
pub mod Turns
pub mod Primitives
pub mod Wild
pub mod Fits
pub mod Maps
