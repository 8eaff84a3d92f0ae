-- The first position.
pub mod Answers
pub mod Found
pub mod IndexTo
pub mod Positions
