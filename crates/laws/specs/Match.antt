-- The match table: hash chains, and the longest word at a position.
pub mod HashChains
pub mod MatchTable
pub mod PrefixRanges
pub mod Columns
pub mod WordChains
pub mod LongestWord
