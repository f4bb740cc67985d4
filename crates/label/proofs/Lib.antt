-- What the functions' proofs use: the steps of the loops over names.
pub mod Steps
