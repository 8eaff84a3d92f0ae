-- The tally, and the shorter of two lists.
pub mod Answers
pub mod Shorter
pub mod Sum
pub mod Walk
