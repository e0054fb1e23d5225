pub mod Held
pub mod Inputs
pub mod Known
pub mod Near
pub mod Pressed
pub mod Sequences
pub mod StandardRows
pub mod Taken
