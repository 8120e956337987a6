-- What the laws of the reader speak of beside the definitions of `ion`.
pub mod Texts
