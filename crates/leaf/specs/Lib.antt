-- What the contracts of this crate cite beside rules.
pub mod Moved
pub mod Side
