-- Laws that the proofs of starting, stepping and listing cite.
pub mod Judged
