pub mod Walks
pub mod RowWalks
pub mod BracketWalks
pub mod RowLaws
pub mod GapLemmas
pub mod Joins
pub mod RowCounts
mod LineCuts
pub mod StartLists
pub mod StartGaps
pub mod StartEdits
pub mod StartRows
