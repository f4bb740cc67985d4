-- Lemmas of the proofs in `echo_file`.
pub mod Steps
pub mod Skips
pub mod Bodies
