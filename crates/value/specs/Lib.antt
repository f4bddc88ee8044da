-- What the theorem of this crate cites beside rules.
pub mod Biased
