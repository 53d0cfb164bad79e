-- Laws of lists and options that several crates use.
pub use Rattle.reo_values.proofs.Sequences.{at_none, at_place, cut_at, left_none}
