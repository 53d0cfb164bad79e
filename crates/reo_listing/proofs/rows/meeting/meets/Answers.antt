use Rattle.reo_net_base.specs.Net.{net_of}
use Rattle.reo_net_laws.specs.Knots.{in_knot}
use Rattle.reo_open.specs.Opens.{open_behaviour}
use Rattle.reo_listing.proofs.rows.MeetingLemmas.{meeting, only_memory}
use Rattle.reo_listing.proofs.rows.meeting.meets.Goals as goal

pub returns-in-Ok-clause-meeting : goal.returns-in-Ok-clause-meeting
returns-in-Ok-clause-meeting g c =
    meeting (net_of open_behaviour c.args.circuit.now) (in_knot c.args.knots.now.numbers c.args.part) c.known.ensures.wired (c.requires.knots.are_knots c.args.part c.requires.part)
    c.knot_jams_exactly.ensures c.args.budget 1 c.in-Ok.found c.in-Ok.ensures.exact c.in-Ok.ensures.jammed

pub only_memory-requires : goal.only_memory-requires
only_memory-requires g c =
    only_memory (net_of open_behaviour c.args.circuit.now) (in_knot c.args.knots.now.numbers c.args.part) c.known.ensures.wired (c.requires.knots.are_knots c.args.part c.requires.part).closed
    c.weight_is_one.ensures c.args.budget c.args.part c.requires.within c.in-Err.fault c.in-Err.ensures.exact
