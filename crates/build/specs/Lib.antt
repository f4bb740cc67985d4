-- What a build asks, and what its making relies on.
pub mod Asked
pub mod CheckLaws
pub mod WrittenLaws
pub mod MakeLaws
pub mod BuildLaws
pub mod FitLaws
pub mod HeldLaws
pub mod LabelLaws
-- the filters of inner nodes after a build (02, K6)
pub mod Pooled
