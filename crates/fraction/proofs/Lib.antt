-- The laws of fractions of a second, for their own proofs and for the crates above. Assumes nothing.
pub mod Scales
pub mod Capped
pub mod Quotients
pub mod Multiples
pub mod Exact
