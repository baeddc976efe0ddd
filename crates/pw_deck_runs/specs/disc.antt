pub mod PairRuns
pub mod Pairs
