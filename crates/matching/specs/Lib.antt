-- What a search answers, and what a match table's ghost field relies on.
pub mod Answers
pub mod ChainProp
