pub mod LineLemmas
pub mod AnswerLemmas
pub mod EventLemmas
pub mod HearLemmas
pub mod FedLemmas
pub mod CloseLemmas
