-- Laws that proofs of this crate and of those above it cite.
pub mod Begin
pub mod RowFound
pub mod Splice
