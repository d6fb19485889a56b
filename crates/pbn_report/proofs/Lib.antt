pub mod PbnLemmas
