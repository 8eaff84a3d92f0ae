-- What the two walks of the Z-algorithm share.
pub mod Walk
