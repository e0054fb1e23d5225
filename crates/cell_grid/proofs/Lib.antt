pub mod EditLemmas
pub mod GridLemmas
pub mod JoinLemmas
pub mod ReplacementWidth
pub mod RowLemmas
