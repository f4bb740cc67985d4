-- The contracts of adding the vectors that are wanted.
pub mod Promises
