-- Where sides and their rows stand.
pub use Rattle.reo_net_laws.proofs.Sides.{are_rows, gives_at, row_below, row_in_table, row_is, rows_length, same_side_at, side_in_range}
