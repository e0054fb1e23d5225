pub mod Name
pub mod Number
pub mod Refusal
pub mod Settings
pub mod Size
pub mod Value
