-- A turn of each sort of loop: it takes a token at least, and reading goes on with one part more.
pub use Rattle.reo_terms.proofs.Turns.{comma_turn, goes_on, one_turn}
