pub mod Faults
pub mod Chain
