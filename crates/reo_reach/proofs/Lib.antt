pub mod AddedLemmas
pub mod FilledLemmas
pub mod PartLemmas
pub mod RowLemmas
pub mod StayLemmas
pub mod WidthLemmas
