-- Laws that the proofs of `order` share: a record at its stride, and what a heap with a hole keeps.
pub mod Order
pub mod Stride
pub mod Sift
pub mod Rise
pub mod Fall
