-- Centres in blocks of sixteen, and sums of products with them.
pub mod Blocks
pub mod BlocksLaws
pub mod Choice
pub mod Promises
