pub mod Content
pub mod Facts
pub mod Shown
pub mod Reading
pub mod Results
pub mod Numbers
pub mod Par
pub mod Query
