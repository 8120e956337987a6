-- Definitions of what the functions that are not public write.
pub mod TextParts
