pub mod Blocks
pub mod Shows
