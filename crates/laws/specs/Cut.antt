-- The cut-down index.
pub mod Bears
pub mod ExactFlags
pub mod Cutting
pub mod Flagging
pub mod FlagWalks
pub mod Same
pub mod Readable
