-- What is known of the walk, for crates that stand on the search.
pub use Rattle.reo_walk.proofs.Knotted.{among_sides, sides_below}
pub use Rattle.reo_walk.proofs.Listing.{mapped_at}
