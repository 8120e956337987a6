-- What the contracts of the report's own functions cite.
pub mod Kept
pub mod Tallied
pub mod Longer
