-- The value of a timestamp in Ion binary, written and read.
pub mod Encode
pub mod Decode
pub mod ReadValue
pub mod Forms
pub mod ReadPaddedValue
