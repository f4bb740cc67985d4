-- Laws behind the passes together: the counting sort's blocks, the table, leaves, filters.
pub mod Classes
pub mod Rows
pub mod Owners
pub mod Finishing
pub mod FilterRows
pub mod Whole
