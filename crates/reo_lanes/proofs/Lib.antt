pub mod RowLemmas
pub mod MaskLemmas
pub mod JointLemmas
