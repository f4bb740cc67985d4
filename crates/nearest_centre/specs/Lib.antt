-- Laws of the choice of the nearest centre.
pub mod ChoiceLaws
