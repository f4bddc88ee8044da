-- Definitions that the contracts of a session cite.
pub mod Put
pub mod Pieces
