pub mod Fives
pub mod Lines
