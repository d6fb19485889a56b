pub mod FaultLemmas
pub mod FileLemmas
pub mod KeptLemmas
pub mod LineLemmas
pub mod NotToldLemmas
pub mod ReportLemmas
