-- The laws of order and distance, for its own proofs and for the crates above. Assumes nothing.
pub mod Orders
pub mod CountsInSeconds
pub mod Clocks
pub mod WordOrder
pub mod Answers
pub mod TimeOrder
