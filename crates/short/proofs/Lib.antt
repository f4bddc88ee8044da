-- Laws of programs that the proofs of several crates cite.
pub mod Programs
