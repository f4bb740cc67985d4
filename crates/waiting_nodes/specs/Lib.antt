-- The contracts of the queue of waiting nodes, and what other crates use of them.
pub mod Promises
pub mod PushLaws
