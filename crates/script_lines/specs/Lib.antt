pub mod Lines
pub mod ScriptLine
pub mod Spelled
pub mod Spelling
