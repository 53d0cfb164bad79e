pub mod Cuts
mod RowLemmas
mod SaidLemmas
pub mod JudgeLemmas
pub mod RefusalLemmas
pub mod EndLemmas
