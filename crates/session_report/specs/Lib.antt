pub mod Players
pub mod Report
