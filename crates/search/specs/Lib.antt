-- The records of a search's contract, made of what it is lent, and that a name's parting does not matter; `Searches` itself stands with the other calls' results.
pub mod Lent
