-- What must be believed: the definitions that the contracts of every crate cite. Each is executable.
pub mod Numbers
pub mod Calendar
pub mod Pair
pub mod Calls
pub mod Text
pub mod Value
