pub mod LinkLemmas
pub mod QueueLemmas
pub mod WalkLemmas
pub mod ReachLemmas
pub mod SortLemmas
pub mod FrontLemmas
pub mod SideLemmas
pub mod ExistLemmas
