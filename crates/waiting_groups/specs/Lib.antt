-- Groups of ids that wait to become nodes, as they stand in the leaf order, and laws.
pub mod Waiting
pub mod WaitingLaws
