-- Laws of rules' definitions that proofs cite, and the theorem `joined`.
pub mod Grouping
pub mod Joined
