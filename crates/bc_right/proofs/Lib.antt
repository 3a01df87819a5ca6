pub mod step_lemmas
pub mod rule_lemmas
pub mod command_lemmas
pub mod program_lemmas
pub mod section_lemmas
