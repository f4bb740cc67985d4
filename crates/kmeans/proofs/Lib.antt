-- What only the proofs of `kmeans` need.
pub mod Marking
pub mod Gathering
pub mod Centring
pub mod Averaging
