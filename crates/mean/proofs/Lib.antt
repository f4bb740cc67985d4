-- What only the proofs of `mean` need.
pub mod Components
pub mod Sums
