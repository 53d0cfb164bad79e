pub mod Trail
pub mod OpenBranch
pub mod Tables
pub mod Judged
pub mod support
