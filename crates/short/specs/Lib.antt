-- Definitions that contracts cite.
pub mod Few
pub mod Low
