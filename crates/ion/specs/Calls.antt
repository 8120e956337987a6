-- What each call answers: the table of numbers, the builder and the packed check, and what is done with an accepted pair.
pub mod Refusal
pub mod Answered
pub mod Output
pub mod Build
pub mod Stages
pub mod Check
pub mod Accepted
pub mod Reads
pub mod Utc
pub mod Order
pub mod Contents
pub mod Stamps
pub mod YearListing
