-- What the functions' proofs use of four words.
pub mod Four
pub mod FilterLaws
pub mod PoolLaws
pub mod Pooling
pub mod Trials
