pub mod Choosing
pub mod Walk
pub mod Deciding
pub mod Answering
pub mod Presses
pub mod Fewest
pub mod Flushing
mod RowLemmas
mod Agreeing
mod Lowering
