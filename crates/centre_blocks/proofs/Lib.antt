-- What only the proofs of `centre_blocks` need.
pub mod Stepping
pub mod Choosing
pub mod Laying
