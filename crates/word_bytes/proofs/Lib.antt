-- Laws of words as bytes.
pub mod Laws
