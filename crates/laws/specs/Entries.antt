-- Entries of a text, maximal entries, and the scan that registers them.
pub mod Complete
pub mod Entries
pub mod EntryPositions
pub mod Maximal
pub mod Scan
pub mod Longest
pub mod Sound
pub mod WordAt
