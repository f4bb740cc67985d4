-- The label hash (document 01, 'Label hash'), the names of an add in two parts (02, K7), their text (02, K4), their laws, and trial values.
pub mod Fnv
pub mod FnvLaws
pub mod Joined
pub mod Names
pub mod NameLaws
pub mod TextLaws
pub mod Trials
