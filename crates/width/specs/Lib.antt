-- What proofs know of the width. Assumes nothing.
pub mod Element
