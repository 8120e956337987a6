-- What the contracts of recorded answers cite beside the definitions of `ion`.
pub mod Fields
pub mod Agreement
