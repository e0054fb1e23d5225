pub mod DrawnText
pub mod Flows
pub mod KeptRows
pub mod Layings
pub mod Lines
pub mod Places
