-- Building: tokens of the scan, posting lists by key, writing.
pub mod Inverted
pub mod Bounds
pub mod KeyCode
pub mod Pages
pub mod PostingLists
pub mod PostingsByKey
pub mod PostingChains
pub mod CodeWalk
pub mod Tokens
pub mod TokenLines
pub mod Building
pub mod IndexWriting
pub mod ScanTokens
pub mod TextBehind
