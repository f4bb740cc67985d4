-- What the contracts cite: numbers as digits, and the printed lines, each with its laws.
pub mod Digits
pub mod DigitsLaws
pub mod Lines
pub mod LinesLaws
pub mod Trials
