pub mod Placing
pub mod Owning
