mod CountLemmas
pub mod OrderLemmas
pub mod RoundLemmas
