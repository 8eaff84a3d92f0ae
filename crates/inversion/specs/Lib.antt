pub mod ChainProp
