-- What holds for the lines of a directory.
pub mod Lines
