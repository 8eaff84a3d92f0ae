-- Search of a window of starts.
pub mod Window
pub mod WindowSearch
pub mod LineSteps
pub mod ListRange
pub mod ExtendAtPositions
pub mod Extending
pub mod Finding
pub mod AgreeingLines
pub mod LeadingLines
pub mod AgreeingRun
pub mod LineRanges
pub mod Searches
pub mod Searching
pub mod WordLines
pub mod AgreeingWords
