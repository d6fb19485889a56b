pub mod Origins
pub mod SessionRequest
pub mod Letting
pub mod Pages
