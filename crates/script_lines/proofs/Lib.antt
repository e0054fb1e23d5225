pub mod LineLemmas
pub mod SpellingLemmas
pub mod Utf8Lemmas
pub mod WrittenLines
