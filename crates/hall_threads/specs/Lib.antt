pub mod Askers
pub mod Hall
