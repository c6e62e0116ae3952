pub mod LineLemmas
pub mod RankLemmas
