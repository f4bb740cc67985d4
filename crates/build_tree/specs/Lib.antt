-- The build of a tree, one node at a time: what waits, and what the functions write.
pub mod Promises
