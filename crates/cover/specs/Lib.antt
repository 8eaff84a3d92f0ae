-- What holds for a query and for a window of starts.
pub mod Queries
pub mod Windows
