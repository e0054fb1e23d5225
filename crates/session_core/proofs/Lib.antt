pub mod CommandLemmas
pub mod DrainLemmas
pub mod FactLemmas
pub mod HistoryLemmas
pub mod KeyLemmas
pub mod SceneLemmas
pub mod StateLemmas
