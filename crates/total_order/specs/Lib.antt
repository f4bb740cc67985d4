-- The total order of f32 (document 01, 'Distance'), its key, and their laws.
pub mod TotalOrder
pub mod OrderLaws
pub mod Trials
