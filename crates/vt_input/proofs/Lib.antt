pub mod HeldLemmas
pub mod InputLemmas
pub mod KeyLemmas
pub mod NearLemmas
pub mod PasteLemmas
pub mod SequenceLemmas
pub mod SmallLemmas
