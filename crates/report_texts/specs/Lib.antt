pub mod Terms
pub mod CsvText
pub mod HtmlText
