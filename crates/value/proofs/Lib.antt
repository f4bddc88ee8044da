-- The order of signed values, and the theorem `signed-values`.
pub mod Order
pub mod Signed
