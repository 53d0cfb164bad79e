-- Laws of lists and options that several crates use.
pub use Rattle.reo_values.proofs.Sequences.{both_none, cut_at, left_none, map_map}
