-- Worked examples of the code, the roots and the words of each form of command, of whole sections, and of how many labels a section
-- may take. The prover computes each.
pub mod Forms
pub mod Roots
pub mod Taking
pub mod Sections
pub mod Words
