-- Laws of reading a text.
mod Clocks
mod Endings
pub mod Exact
mod ExactDigits
mod ExactOffsets
mod Forms
mod Numbers
mod Offsets
pub mod ReadBack
mod Reading
mod Runs
