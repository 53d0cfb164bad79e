mod Told
mod Lists
mod Keeping
mod RightKinds
mod TypedItems
mod TypedRounds
mod LineLemmas
mod ProgramKinds
mod ProgramJoints
mod ProgramPorts
pub mod ProgramOrder
mod OverSmall
mod RunLemmas
pub mod Counting
