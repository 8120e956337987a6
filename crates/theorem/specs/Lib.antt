pub mod TwoStamps
pub mod DaysWanted
