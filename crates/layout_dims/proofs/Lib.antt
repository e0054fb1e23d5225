pub mod Rounds
pub mod Orders
pub mod Stages
pub mod Parts
pub mod Alike
pub mod OneDivision
