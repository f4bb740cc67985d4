-- Document 01, 'Runs' and 'The book', and demand 3. To believe the statement read these four, which hold definitions only: the calls, the model of all
-- calls (01's book), runs, and the claim `Demand3`. proofs/ proves it.
pub mod Calls
pub mod Model
pub mod Run
pub mod Theorem
