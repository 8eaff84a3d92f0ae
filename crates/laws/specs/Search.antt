-- Search by its definition: agreement, offsets, cover and reach.
pub mod Agree
pub mod AgreeWalk
pub mod Search
pub mod Cover
pub mod Offset
pub mod Offset32
pub mod Parts
pub mod Positions
pub mod Reach
pub mod ReachExtends
pub mod ReachExact
pub mod Sizing
