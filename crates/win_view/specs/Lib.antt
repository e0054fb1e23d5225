pub mod Contents
pub mod FirstRow
pub mod Greedy
pub mod Rows
pub mod Scroll
pub mod Settling
pub mod Showing
pub mod Views
