-- Lemmas.
pub mod Reading
