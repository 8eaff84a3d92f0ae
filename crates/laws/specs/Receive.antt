-- Reception and recovery: reconstruction, line map, the reception test.
pub mod Covered
pub mod LinePass
pub mod EntriesMatch
pub mod Received
pub mod ReceptionTest
pub mod FormKeys
pub mod LineMap
pub mod LineMapFill
pub mod PositionWalk
pub mod Reconstruction
pub mod ReconstructionWalk
pub mod LineMapWalk
pub mod Receiving
pub mod Reception
pub mod ReceivedText
pub mod Verify
pub mod WorkParts
