-- What proves the claim `Demand3` and what else is said of every run.
-- the model on small values
pub mod Trials
-- between a run and its model: the state, what the lists hold of the rows, what of the nodes; refusals alike
pub mod State
pub mod Held
pub mod Refusals
pub mod Built
pub mod Invariant
-- what is owed for a change, and of each change
pub mod ChangeLaws
pub mod Adds
pub mod TakesBack
pub mod Withdrawn
pub mod Withdraws
pub mod Builds
-- the walk over the store is the walk over the rows' tree, which is sound; the cases of what is wanted
pub mod WantedLaws
pub mod Views
pub mod Due
pub mod Search
-- every step, and every run
pub mod Reached
-- an accepted add is undone by a taking back
pub mod Undone
-- (a) and (b)
pub mod Contents
pub mod Eligible
pub mod Hits
pub mod Larger
pub mod Whole
pub mod Demand
-- not empty: outcomes, runs and reference lists exist
pub mod Exists
pub mod Reference
-- of two labels the order makes no difference to a whole answer
pub mod Swapped
-- an example
pub mod Places
pub mod Example
