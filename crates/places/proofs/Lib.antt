pub mod Noting
pub mod Tabling
pub mod Looking
