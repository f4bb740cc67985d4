-- Document 01's trial echoes as one theorem.
pub mod Table
