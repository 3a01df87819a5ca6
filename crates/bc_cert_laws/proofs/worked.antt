-- Worked examples: what some certificates say, the first faults of texts near them, and how verdicts fit segments. They are lemmas that
-- hold by computation.
pub mod Against
pub mod Written
pub mod Accepted
pub mod Refused
pub mod Deep
