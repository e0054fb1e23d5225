pub mod CuttingLemmas
mod JoiningLemmas
mod ReachLemmas
