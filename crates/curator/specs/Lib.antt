-- Document 01, 'The store' and 'Refusals and what they leave': limits, refusals, and each call's result in full.
pub mod Outcome
pub mod OutcomeLaws
pub mod Limits
pub mod Arguments
pub mod Rows
pub mod Calls
pub mod Changes
pub mod Searches
pub mod Lent
