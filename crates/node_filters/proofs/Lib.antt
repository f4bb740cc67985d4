-- What only the proofs of `node_filters` need.
pub mod Filtering
pub mod FiltersLaws
