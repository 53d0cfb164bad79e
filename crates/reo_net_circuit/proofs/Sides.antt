-- Where sides and their rows stand.
pub use Rattle.reo_net_laws.proofs.Sides.{are_rows, first_before, first_more, row_below, rows_length, side_in, side_is}
