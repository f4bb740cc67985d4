-- What only the proofs of `waiting_groups` need.
pub mod Writes
pub mod Sorting
