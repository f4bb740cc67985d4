-- The filters of the nodes.
pub mod Filters
pub mod Promises
