-- Worked examples of operands, of each rule of the rule table, and of least words. The prover computes each.
pub mod Operands
pub mod Freedom
pub mod Values
pub mod Tests
pub mod Senses
pub mod Refusals
pub mod Page
pub mod Least
