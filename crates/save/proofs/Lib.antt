-- Lemmas.
mod Fitting
