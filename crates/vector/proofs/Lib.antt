-- Lemmas of the proofs in `vector`.
pub mod Steps
