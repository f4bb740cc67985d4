-- The distance (document 01, 'Distance') and its laws.
pub mod Distance
pub mod DistanceLaws
