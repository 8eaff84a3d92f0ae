-- What contracts say of an admitted dictionary, and what a `?` returns.
pub mod Passing
pub mod Words
