-- Laws that only this crate's proofs need.
pub mod Marking
pub mod Opening
pub mod Passing
