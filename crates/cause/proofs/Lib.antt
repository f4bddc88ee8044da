-- Laws that other crates cite.
pub mod Scan
