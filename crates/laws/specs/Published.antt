-- The definitions and algorithms of the source papers.
pub mod Extension
pub mod Figure
pub mod Growing
