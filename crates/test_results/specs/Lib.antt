-- What the contracts of the C functions for tests cite beside the definitions of `ion`.
pub mod Answers
