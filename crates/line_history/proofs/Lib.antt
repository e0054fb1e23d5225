pub mod Cuts
pub mod EntryBytes
pub mod Fronts
pub mod Growth
pub mod ReadLines
