-- What the contracts of the C functions cite beside the definitions of `ion`.
pub mod Reading
