-- Laws that only this crate's proofs need.
pub mod Steps
pub mod Walking
pub mod Marking
