-- The gap form of an index.
pub mod GapLists
pub mod WithLists
pub mod GapForms
pub mod GapWriting
pub mod GapSums
pub mod GapParts
pub mod ReadLists
