pub mod BodyParts
pub mod Parsed
