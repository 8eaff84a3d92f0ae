-- Models: the list functions that loops are proved to compute, and what is claimed of the two algorithms.
pub mod WordStarts
pub mod Entries
pub mod Scan
pub mod Reach
pub mod MatchTable
pub mod Readability
pub mod Inversion
pub mod Reception
pub mod Window
pub mod Tally
pub mod Gaps
pub mod JobSheet
pub mod Examples
