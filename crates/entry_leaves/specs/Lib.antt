-- The leaf of each vector and of each entry.
pub mod Leaves
pub mod LeavesLaws
pub mod Trials
