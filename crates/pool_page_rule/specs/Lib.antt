pub mod PageRule
pub mod SameAnswers
pub mod MoreHistories
