use Rattle.reo_net_base.specs.Net.{net_of}
use Rattle.reo_rows.specs.Sets.{names_of}
use Rattle.reo_propagate.specs.Queues.{among}
use Rattle.reo_propagate.proofs.Narrowed.{flags_there, are_left}
use Rattle.reo_propagate.proofs.sets.left_of.Goals as goal

pub returns-clause-flags : goal.returns-clause-flags
returns-clause-flags g c =
    flags_there (net_of g.P.Primitive.behaviour c.args.basis.now.circuit.now) (names_of c.args.basis.now.items.now) (among c.args.sides.now) c.args.basis.now.items.now c.in_ok-state.state.alive c.propagate.new.state.alive
    c.args.sets.now.values c.requires.numbers c.in_ok-state.ensures.search.ready.width c.in_ok-state.ensures.values c.requires.one_each c.propagate.ensures.reduced.alike.width

pub returns-clause-left : goal.returns-clause-left
returns-clause-left g c =
    are_left (net_of g.P.Primitive.behaviour c.args.basis.now.circuit.now) (names_of c.args.basis.now.items.now) (among c.args.sides.now) c.args.basis.now.items.now c.in_ok-state.state.alive c.propagate.new.state.alive
    c.args.sets.now.values c.requires.numbers c.in_ok-state.ensures.search.ready.width c.in_ok-state.ensures.values c.in_ok-propagate.ensures.greatest
