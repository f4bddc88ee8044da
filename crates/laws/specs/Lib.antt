-- Definitions that the contracts of several crates cite.
pub mod CallTable
pub mod Fit
pub mod Conflict
pub mod Acyclic
pub mod Found
