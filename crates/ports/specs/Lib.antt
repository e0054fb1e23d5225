pub mod Entries
pub mod Frames
pub mod Sink
pub mod Supply
