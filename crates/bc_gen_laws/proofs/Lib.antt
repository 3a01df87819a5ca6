pub mod label_lemmas
pub mod size_lemmas
pub mod root_lemmas
