-- The contracts of the walk, and the laws on its work list, on children and on leaves.
pub mod Walks
pub mod WalksLaws
pub mod MarkLaws
pub mod ChildLaws
pub mod GatherLaws
