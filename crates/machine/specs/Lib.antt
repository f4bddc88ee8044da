-- Definitions that contracts cite.
pub mod Index
pub mod Outcome
pub mod RowOf
pub mod Splice
