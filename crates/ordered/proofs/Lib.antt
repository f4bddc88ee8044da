-- Laws that other crates cite, and those that its own proofs do.
pub mod Each
pub mod Zeros
pub mod Rising
pub mod Order
pub mod Halves
pub mod Standing
