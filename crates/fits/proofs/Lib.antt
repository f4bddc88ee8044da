pub mod Tallying
pub mod Families
pub mod Together
