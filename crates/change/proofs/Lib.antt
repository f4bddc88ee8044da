-- Laws that other crates cite.
pub mod Calls
pub mod Places
pub mod Family
