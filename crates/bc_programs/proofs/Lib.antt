pub mod law_lemmas
pub mod source_lemmas
pub mod built_lemmas
pub mod library_lemmas
