-- The text of a timestamp, written and read.
pub mod Ascii
pub mod Format
pub mod ReadText
