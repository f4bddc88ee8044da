-- Definitions that the contracts of this crate and of others cite.
pub mod Ordered
pub mod Search
