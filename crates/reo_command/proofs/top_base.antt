pub mod AnswerLemmas
pub mod CaseLemmas
pub mod DoneLemmas
pub mod LineLemmas
pub mod StopLemmas
pub mod ToldLemmas
