-- Definitions and laws on lists beyond those of `lib.ListN` and `lib.Seq`, for every element type.
pub mod Lists
pub mod Tests
pub mod Parts
pub mod Frame
pub mod Writes
pub mod Maps
pub mod Counting
pub mod Suffix
pub mod Same
pub mod Partition
