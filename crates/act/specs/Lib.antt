-- What the contracts of this crate cite beside rules.
pub mod Acted
