pub mod Remainder
pub mod Tops
