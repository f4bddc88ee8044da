-- `Answer` is what a caller of `decode` cites; the others lead to it.
pub mod Good
pub mod Readings
pub mod Blocks
pub mod Whole
pub mod Answer
