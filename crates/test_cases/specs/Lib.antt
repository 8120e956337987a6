-- What the contracts of recorded answers cite beside the definitions of `ion`, `scans` and `test_answers`.
pub mod Agreement
pub mod Kinds
