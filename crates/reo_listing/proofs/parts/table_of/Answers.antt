use Rattle.reo_net_laws.specs.Knots.{in_knot}
use Rattle.reo_listing.proofs.parts.table_of.Goals as goal

pub rows_of-requires-clause-narrow : goal.rows_of-requires-clause-narrow
rows_of-requires-clause-narrow g c = c.requires.listable.narrow (in_knot c.args.knots.now.numbers c.args.part)
