pub mod SummaryList
