-- What the proofs of several functions use: the last kept scans as a list, their words, and in the front of an array; what a scan is by the
-- distance; a file part way.
pub mod Posts
pub mod Words
pub mod Kept
pub mod KindsByDistance
pub mod Tallying
