-- Document 01, 'The echo file and its printer': the format, a decoder that computes, what the reader answers, and their laws.
pub mod Format
pub mod Decode
pub mod Reads
pub mod Places
pub mod Trials
pub mod FieldLaws
pub mod DecodeLaws
pub mod ReadsLaws
