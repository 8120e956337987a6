pub mod BodyRuns
pub mod Lengths
pub mod Headers
