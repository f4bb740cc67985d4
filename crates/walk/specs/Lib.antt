-- Document 01, 'Search': the walk, what is wanted, the hits it gives, what a lent store shows, and damage.
pub mod Walk
pub mod Answer
pub mod Wanted
pub mod StoreView
-- what the functions promise each other
pub mod Promises

-- trials and laws
