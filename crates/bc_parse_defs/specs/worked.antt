-- Worked examples: what is read, what is refused, and how deep trees may nest. They are lemmas whose proof is a
-- computation.
pub mod Written
pub mod Readings
pub mod Depths
