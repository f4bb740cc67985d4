-- The table of six numbers per node: its columns, the starts of blocks, and laws.
pub mod Table
pub mod TableLaws
