-- What the contracts of this crate cite beside rules.
pub mod Planned
pub mod Ready
pub mod History
