-- The ways through judging, which the answers cite.
pub mod Ways
