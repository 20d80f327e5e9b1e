pub mod PairKeys
