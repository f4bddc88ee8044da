-- Laws of masks that other crates cite.
pub mod Bits
