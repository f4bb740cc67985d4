-- What the contracts of `record_queue` say: ordered lists of records with their laws, records in a list of u32 with theirs, the queue, and the
-- steps that it is made of.
pub mod Sorted
pub mod SortedLaws
pub mod Records
pub mod RecordsLaws
pub mod Queue
pub mod Steps
