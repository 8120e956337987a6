-- What the contracts of the readers of whole files cite.
pub mod Scans
