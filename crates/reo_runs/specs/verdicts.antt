pub mod Said
pub mod Wrongs
pub mod Replays
pub mod Verdicts
pub mod Replay
pub mod Laws
