pub mod Weaker
pub mod Answers
pub mod LentAnswers
pub mod MoreHistories
