-- What holds for a directory.
pub mod Directory
pub mod Opening
