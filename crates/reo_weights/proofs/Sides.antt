-- Where sides and their rows stand.
pub use Rattle.reo_net_laws.proofs.Sides.{Owner, are_rows, owner_at, owner_of, owner_side, side_at_place, side_in_range}
