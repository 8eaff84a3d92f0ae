-- Search in the reconstructed text: Z-search.
pub mod ZSearch
pub mod ReconstructedSearch
