pub mod States
pub mod Pairs
pub mod Restores
pub mod Turning
