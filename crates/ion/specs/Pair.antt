-- The packed pair: its word, its fields, its fraction and what it counts.
pub mod Offset
pub mod Layout
pub mod Word
pub mod Fraction
pub mod Pair
pub mod Count
