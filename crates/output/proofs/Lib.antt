pub mod Stores
pub mod Runs
