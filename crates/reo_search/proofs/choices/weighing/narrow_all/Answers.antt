use Rattle.std.proofs.Common.{ℕ, Bool}
use Rattle.reo_net_base.specs.Net.{Net, net_of}
use Rattle.reo_rows.specs.Sets.{family_of, names_of}
use Rattle.reo_propagate.specs.Queues.{among}
use Rattle.reo_walk.proofs.Resting.{supported_of}
use Rattle.reo_search.proofs.choices.Remains.{narrowed_all}
use Rattle.reo_search.proofs.choices.weighing.narrow_all.Goals as goal

pub returns-clause-left : goal.returns-clause-left
returns-clause-left g c =
    let net : Net = net_of g.P.Primitive.behaviour c.args.basis.now.circuit.now in
    let names = names_of c.args.basis.now.items.now in
    let inside : ℕ → Bool = among c.args.sides.now in
    let after = c.in_ok-propagate.ensures in
    record {
      narrowed = narrowed_all net inside c.args.basis.now.boards.now c.args.basis.now.ends.now c.args.basis.now.items.now c.args.state.now.alive c.requires.search.ready c.requires.whole (family_of c.propagate.new.state.alive) after.reduced.narrowed;
      supported = supported_of net names inside c.propagate.new.state.alive c.propagate.new.state.rows c.propagate.new.state.queue after.search.tended after.empty c.requires.sides;
    }
