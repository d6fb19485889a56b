pub mod Telling
pub mod Faults
pub mod Obstacles
pub mod Serving
