-- Laws that only this crate's proofs need.
pub mod Written
pub mod BothLabels
