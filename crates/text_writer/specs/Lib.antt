pub mod Hundredths
pub mod Markup
pub mod Written
