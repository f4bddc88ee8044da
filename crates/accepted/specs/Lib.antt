-- Definitions that the contracts on an accepted image cite.
pub mod Direction
pub mod Fitting
pub mod Listed
