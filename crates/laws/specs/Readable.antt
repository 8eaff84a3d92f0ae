-- Readability, line by line.
pub mod Readable
pub mod IndexOf
pub mod LineWalk
pub mod LineEnds
pub mod KeyTests
pub mod IndexRefusal
pub mod KeyLengths
pub mod Descents
pub mod LineSteps
pub mod LineKinds
pub mod LoneWords
pub mod Opening
pub mod Recover
