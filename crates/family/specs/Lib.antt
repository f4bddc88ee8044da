-- Definitions that the contracts on a process's children cite.
pub mod Room
