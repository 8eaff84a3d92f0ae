-- Where the scan of a text may step.
pub mod Steps
