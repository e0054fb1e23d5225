pub mod CharacterLemmas
pub mod CutLemmas
pub mod LossyLemmas
pub mod UnfinishedLemmas
