-- What only the proofs of `entry_order` need.
pub mod Sorting
pub mod Sorted
