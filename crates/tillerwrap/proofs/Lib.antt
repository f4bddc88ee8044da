-- Laws that the proofs of the boundary cite.
pub mod Lent
pub mod Listed
