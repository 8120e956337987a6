-- Dates, year starts, and dates and times moved by minutes.
pub mod Dates
pub mod YearStarts
pub mod Shift
