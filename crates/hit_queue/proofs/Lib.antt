-- Laws that only this crate's proofs need.
pub mod Measuring
pub mod Behind
pub mod Taking
