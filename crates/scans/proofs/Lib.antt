-- The rows that hold the definitions to the scope.
pub mod Rows
pub mod ScanExamples
pub mod ReportExamples
pub mod SiteExamples
