-- What a read adds to a buffer.
pub mod Parts
