-- The contract of the finishing passes of a build.
pub mod Promises
