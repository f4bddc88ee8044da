-- Laws of rules' definitions that this crate's proofs cite.
pub mod Owning
