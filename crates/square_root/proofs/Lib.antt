-- Lemmas of the proofs in `square_root`.
pub mod RootLift
pub mod Newton
