-- Laws of lists and options that several crates use.
pub use Rattle.reo_values.proofs.Sequences.{left_none, no_value}
