-- Document 01, 'The store' and 'Refusals and what they leave': settings by their numbers, limits, and the numbers of refusals.
pub mod Given
pub mod Limits
pub mod Refusals
