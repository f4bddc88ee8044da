-- Laws of a session's lines and pieces.
pub mod Texts
pub mod Digits
pub mod Ways
pub mod Session
