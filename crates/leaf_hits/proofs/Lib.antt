-- Laws that only this crate's proofs need.
pub mod Candidates
pub mod Entries
pub mod LeafLists
pub mod Names
