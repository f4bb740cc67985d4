-- What child counts are asked to be.
pub mod Promises
