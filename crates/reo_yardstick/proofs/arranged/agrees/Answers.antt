use Rattle.std.proofs.Common.{IsTrue}
use Rattle.reo_net_base.specs.Net.{net_of}
use Rattle.reo_kinds.specs.Kinds.{behaviour_of}
use Rattle.reo_yardstick.proofs.Bounded.{one_each}
use Rattle.reo_yardstick.proofs.arranged.agrees.Goals as goal

pub arrange-requires-clause-one : goal.arrange-requires-clause-one
arrange-requires-clause-one g c =
    let single : IsTrue c.loops_are_single.result = search in
    one_each (net_of behaviour_of c.args.wanted.now.circuit.now) c.args.wanted.now.knots.now c.args.wanted.now.knot c.args.sets.now.values c.requires.wanted.knots c.requires.wanted.knot (c.loops_are_single.ensures single)
