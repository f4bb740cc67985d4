-- Laws that only this crate's proofs need.
pub mod Looks
pub mod AnswerLaws
pub mod Damage
pub mod BudgetLaws
pub mod DifferentLaws
pub mod HeldLaws
pub mod KeysLaws
pub mod LentLaws
pub mod PackedLaws
pub mod ReadLaws
pub mod SameWalkLaws
pub mod SoundWalk
pub mod StoreViewLaws
pub mod Trials
pub mod Twice
pub mod WalkLaws
pub mod WantedLaws
