pub mod Numbers
pub mod Turns
pub mod Division
pub mod Growth
pub mod Fairness
