-- To believe what `echoes` prints, read File (what is printed of a file), Step (what one step of the code does) and Theorem (the joined steps).
pub mod File
pub mod Step
pub mod Theorem
-- the inner functions
pub mod Code
pub mod StepLaws
-- why it holds
pub mod Agrees
pub mod Prints
pub mod Onward
-- every file has such steps
pub mod Exists
