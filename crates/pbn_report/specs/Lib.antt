pub mod PbnText
