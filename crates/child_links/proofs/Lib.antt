-- What only the proofs of `child_links` need.
pub mod Linking
