pub mod Rebuilt
pub mod Valid
pub mod CheckedFields
pub mod Accepts
pub mod FieldTests
pub mod WordBounds
pub mod UtcForm
