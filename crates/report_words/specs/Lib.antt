pub mod ReportList
