-- Laws that other crates cite.
pub mod Calling
pub mod Named
pub mod Standing
pub mod ByIdentifier
pub mod Steps
pub mod First
pub mod Making
