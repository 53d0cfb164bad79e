use Rattle.reo_net_base.specs.Net.{net_of}
use Rattle.reo_net_laws.specs.Knots.{in_knot}
use Rattle.reo_open.specs.Opens.{open_behaviour}
use Rattle.reo_listing.proofs.rows.MeetingLemmas.{meeting}
use Rattle.reo_listing.proofs.rows.part.begin.Goals as goal

pub returns-in-Ok-clause-exact : goal.returns-in-Ok-clause-exact
returns-in-Ok-clause-exact g c = record {
  within = c.in-Ok.ensures.exact.within;
  meeting = meeting (net_of open_behaviour c.args.circuit.now) (in_knot c.args.knots.now.numbers c.args.part) c.known.ensures.wired (c.requires.knots.are_knots c.args.part c.requires.part)
      c.knot_jams_exactly.ensures c.args.budget 1 c.in-Ok.found c.in-Ok.ensures.exact c.in-Ok.ensures.jammed;
}
