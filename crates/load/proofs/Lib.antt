-- Lemmas of the proofs in `load`.
pub mod Laws
