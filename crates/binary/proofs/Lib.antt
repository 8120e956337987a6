pub mod Groups
pub mod VarUInts
pub mod VarInts
pub mod Ints
pub mod Decimals
pub mod Numbered
