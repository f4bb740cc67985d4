-- Lemmas of the proofs in `distance`.
pub mod Steps
pub mod Fours
