pub mod PageFiles
pub mod PageReading
