-- What the contracts of field sets cite beside the definitions of `ion`.
pub mod FieldSets
