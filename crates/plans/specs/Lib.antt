-- Definitions that the contracts of the plans cite.
pub mod Known
