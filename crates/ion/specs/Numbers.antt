-- Numbers as digits and as bytes of Ion binary.
pub mod Padded
pub mod VarUInt
pub mod VarInt
pub mod Int
pub mod Decimal
pub mod PaddedNumbers
pub mod NumberReads
