pub mod Audit
pub mod Exposure
pub mod ExposureTable
pub mod Journal
pub mod KeptBook
pub mod Replay
pub mod Run
pub mod Touched
