-- The table's recurrence, and its entries.
pub mod Recurrence
pub mod Entries
