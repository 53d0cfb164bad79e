pub mod ItemLemmas
pub mod LetIn
pub mod ReplayLemmas
pub mod SaidLemmas
pub mod VerdictLemmas
pub mod VerifiedLemmas
pub mod WrongLemmas
