-- Strings, characters, width folding: facts about lists of characters.
pub mod Strings
pub mod Facts
pub mod WidthFolding
pub mod Chars
pub mod Overlaps
