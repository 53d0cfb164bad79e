pub mod MeetingLemmas
pub mod WalkingLemmas
pub mod PartLemmas
pub mod LookupsLemmas
