-- What only the proofs of `nearest_centre` need.
pub mod Choice
