-- What the functions' proofs use of lists.
pub mod Steps
