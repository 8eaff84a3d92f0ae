-- What contracts say of a key by name and of a pass over the lines of an index, and what their callers' proofs cite.
pub mod Keys
pub mod Lists
