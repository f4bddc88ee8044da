-- Laws that other crates cite.
pub mod Search
pub mod Lists
pub mod Times
pub mod CallTable
pub mod Pack
pub mod Ascending
pub mod Decoded
pub mod View
pub mod Tests
pub mod Reached
pub mod Rank
pub mod PeakRight
pub mod Words
pub mod Bytes
pub mod Signed
