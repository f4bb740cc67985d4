-- What only the proofs of `build_tree` need.
pub mod Dividing
pub mod Stepping
pub mod Building
pub mod MadeLaws
pub mod Standing
pub mod StandingEnd
pub mod StandingStep
