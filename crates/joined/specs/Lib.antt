pub mod Stack
pub mod Sentence
