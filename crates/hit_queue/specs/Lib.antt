-- The contracts of the queue of hits, and what other crates use of them.
pub mod Promises
pub mod QueueLaws
