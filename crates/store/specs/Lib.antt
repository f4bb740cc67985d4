-- Document 01, 'The store': the sizes and the parts of the lent lists, defined once for every call.
pub mod Store
-- what a call is lent: the lists and their lengths, and when they are long enough
pub mod Lent
-- laws
pub mod LentLaws
pub mod Agree
pub mod Fronts
-- computed
pub mod Trials
