-- Entries by leaf: a counting sort.
pub mod EntryOrder
pub mod EntryOrderLaws
pub mod Trials
