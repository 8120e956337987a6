-- The laws of scans and their files: numbers, sites, what is read of a scan, scans both ways, files passed through, the layouts, files both
-- ways; of scans tallied.
pub mod Numbers
pub mod Sites
pub mod Reading
pub mod Scans
pub mod Passing
pub mod Layouts
pub mod Files
pub mod Tallies
