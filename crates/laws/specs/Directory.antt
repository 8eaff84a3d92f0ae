-- Directory lines by number: tables of starts, lower bounds, equal ranges.
pub mod Tables
pub mod Searchable
pub mod Asked
