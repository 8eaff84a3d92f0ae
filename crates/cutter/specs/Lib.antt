-- What holds for a flagged directory.
pub mod Flags
