-- Laws on Booleans, numbers, membership and lists that do not mention an index.
pub mod Bools
pub mod Member
pub mod LowerBound
pub mod Absent
pub mod Order
pub mod Steps
pub mod Stores
pub mod Placed
pub mod PlacedCopies
pub mod Writing
pub mod Wrapping
pub mod Chain
pub mod Copying
