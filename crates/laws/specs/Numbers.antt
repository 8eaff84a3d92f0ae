-- The layout of an index as numbers, and reading it back.
pub mod Flat
pub mod KeyOrder
pub mod FlatOrder
pub mod KeyNumbers
pub mod Header
pub mod Copied
pub mod Slices
pub mod LineNumbers
pub mod DirectoryWalk
pub mod Lines
pub mod Sorted
