pub mod First
pub mod NumberBits
pub mod Numbers
