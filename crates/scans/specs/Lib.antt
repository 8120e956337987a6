-- What must be believed of scan files: the definitions that the contracts of the crates above cite. Each is executable.
pub mod Number
pub mod Layout
pub mod Scan
pub mod File
pub mod Tally
pub mod Report
