pub mod Answers
pub mod Evaluators
pub mod Kept
pub mod Memos
