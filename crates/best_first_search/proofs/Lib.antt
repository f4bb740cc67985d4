-- Laws that only this crate's proofs need.
pub mod Runs
pub mod Struck
pub mod Ranking
pub mod Searching
