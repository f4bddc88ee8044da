-- Laws that other crates cite.
pub mod Sides
pub mod Planned
