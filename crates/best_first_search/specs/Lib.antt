-- The contracts of the ranking of hits.
pub mod Ranks
