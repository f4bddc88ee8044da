-- Code 11 in document 01's words: Definitions has what it asks, ProcessBlocks the theorem `eleven`.
pub mod Definitions
pub mod OneLabel
pub mod ProcessBlocks
