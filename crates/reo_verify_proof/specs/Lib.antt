pub mod Answered
pub mod Refusing
pub mod Ended
pub mod Firsts
pub mod proof_rounds
