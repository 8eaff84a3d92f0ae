pub mod ChainHead
pub mod CodeWalk
