pub mod NumberLemmas
pub mod SizeLemmas
