pub mod Numbers
pub mod Fractions
