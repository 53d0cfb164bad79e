-- Numbers of a list.
pub use Rattle.reo_propagate.proofs.Among.{among_at, among_filter, among_range, among_stands, into_filter}
