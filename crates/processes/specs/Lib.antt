-- Definitions that the contracts of this crate cite.
pub mod Below
pub mod Own
