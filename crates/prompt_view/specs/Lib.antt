pub mod Bars
pub mod Drawing
pub mod Floats
pub mod Layout
pub mod Lines
pub mod Rooms
pub mod Scene
