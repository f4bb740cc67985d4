-- Vectors (document 01, 'Root and length' and refusal 8), and the laws that follow.
pub mod Vector
pub mod VectorLaws
pub mod Normalized
pub mod Trials
