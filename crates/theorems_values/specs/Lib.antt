-- Values: the theorem `signed-values` over the meaning of the operators (rules' Meaning), and what carries it. (The theorem of that name in
-- crate value
-- is over the order of signed numbers.)
pub mod Operators
pub mod SignedValues
