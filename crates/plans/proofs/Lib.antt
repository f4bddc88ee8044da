-- Laws that the proofs of the plans cite.
pub mod Known
