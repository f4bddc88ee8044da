-- What the contracts and theorems of this crate cite beside rules and laws.
pub mod Table
pub mod Grid
pub mod Peaks
