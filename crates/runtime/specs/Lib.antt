-- Definitions that the contracts of starting and stepping cite.
pub mod Outcome
