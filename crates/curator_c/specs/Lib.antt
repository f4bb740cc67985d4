-- A state as a list of numbers, and the result of each exported function in full, by the results of the index's own calls.
pub mod State
pub mod Results
pub mod StateLaws
pub mod ResultLaws
pub mod InvalidLaws
pub mod Trials
