-- The contracts of gathering the vectors of a leaf's list, and what other crates use of them.
pub mod Promises
pub mod LeafLaws
pub mod Gathering
