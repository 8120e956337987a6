pub mod UtcCounts
pub mod Bytes
pub mod TwoStamps
pub mod DaysWanted
pub mod Refusals
