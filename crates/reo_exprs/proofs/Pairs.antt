-- What definitions by cases say of pairs.
pub use Rattle.reo_values.proofs.Pairs.{IsValid-Pair, Pair_of-equal, left_of-Pair, right_of-Pair}
