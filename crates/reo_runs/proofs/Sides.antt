-- Where sides and their rows stand.
pub use Rattle.reo_net_laws.proofs.Sides.{gives_at, owner_of, row_below, row_in_table, row_is, rows_length, same_side_at, side_in, side_in_range, side_is, sides_few}
