pub mod Characters
pub mod ControlCharacters
pub mod Cut
pub mod Unfinished
