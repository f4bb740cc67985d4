-- Hit records: the result of filling a list of them, and its laws, with what it says place by place.
pub mod Hits
