-- Laws that the proofs of the plans and of the list on an accepted image cite.
pub mod Codes
pub mod Rows
pub mod Unfit
