-- The laws of the calendar, for its own proofs and for the crates above. Assumes nothing.
pub mod Sums
pub mod Years
pub mod Months
pub mod Dates
pub mod Days
pub mod Shifts
pub mod FirstDay
