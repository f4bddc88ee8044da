-- Definitions that the contracts of this crate cite.
pub mod Children
pub mod Rows
