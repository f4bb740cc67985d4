-- Marks of ids, and what the functions of this crate leave.
pub mod Marks
pub mod Means
pub mod Promises
pub mod MarksLaws
