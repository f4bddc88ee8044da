-- Support: words as the bytes that C lends, and demands 2 and 3 on bytes.
pub mod Demand2
pub mod Demand3
pub mod FitWords
pub mod Runs
pub mod StepWords
pub mod Words
