pub mod Requests
pub mod Whole
pub mod Batching
pub mod Batches
pub mod Answers
pub mod Laws
