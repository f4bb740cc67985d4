-- What the proofs of the functions are put together from.
pub mod Laws
pub mod Parted
