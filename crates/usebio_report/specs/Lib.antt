pub mod UsebioText
