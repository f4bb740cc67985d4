-- The contracts of the pass.
pub mod Promises
