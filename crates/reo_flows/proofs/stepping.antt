pub mod FlowLemmas
pub mod QuietLemmas
pub mod Marking
pub mod MouthLemmas
pub mod StepLemmas
pub mod Far
pub mod NextLemmas
