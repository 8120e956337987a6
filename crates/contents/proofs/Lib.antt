-- What a reader finds in bytes that hold items one after another.
pub mod Readers
pub mod Items
pub mod Passing
pub mod Written
