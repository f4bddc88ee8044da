-- Laws that the proofs of several functions cite.
pub mod Found
pub mod Levels
pub mod Labels
pub mod Grid
pub mod Memo
pub mod Passed
