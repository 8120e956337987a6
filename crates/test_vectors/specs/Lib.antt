-- What the contracts of `test_vectors` cite.
pub mod Records
