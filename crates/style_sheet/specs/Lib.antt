pub mod Ascii
pub mod Cascade
pub mod ClassName
pub mod Grammar
pub mod Known
pub mod Patches
pub mod Spelling
pub mod StyleRule
