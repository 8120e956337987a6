-- The laws of the packed word, for its own proofs and for the crates above. Assumes nothing.
pub mod Joins
pub mod Limits
pub mod Assembly
pub mod Words
