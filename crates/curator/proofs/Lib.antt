-- Steps that the proofs of several functions take.
pub mod Steps
pub mod Marks
pub mod AddLaws
pub mod BeamLaws
pub mod BuildRowLaws
pub mod HeldLaws
pub mod Parted
pub mod RowLaws
pub mod SearchHeldLaws
pub mod SearchRowLaws
pub mod StateLaws
pub mod TakeBackLaws
pub mod Trials
pub mod Twice
pub mod WithdrawLaws
pub mod Withdrawn
