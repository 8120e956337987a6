-- The law of the cut fraction, for its own proofs. Assumes nothing.
pub mod Cuts
