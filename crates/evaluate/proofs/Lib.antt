-- The laws of this crate.
pub mod Holds
pub mod Written
