-- Where sides and their rows stand.
pub use Rattle.reo_net_laws.proofs.Sides.{gives_at, row_in_table, row_is, same_side_at, side_at_is, side_in_range}
