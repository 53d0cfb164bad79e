use Rattle.std.proofs.Common.{get_or}
use Rattle.reo_net_base.specs.Net.{Net, net_of}
use Rattle.reo_propagate.proofs.Among.{among_at}
use Rattle.reo_propagate.proofs.Begun.{begun_anew, values_there}
use Rattle.reo_propagate.proofs.restarting.restart.Goals as goal

pub freshen_all-requires-clause-sides : goal.freshen_all-requires-clause-sides
freshen_all-requires-clause-sides g c m lt = c.requires.sides (get_or c.args.sides.now m 0) (among_at c.args.sides.now m lt)

pub returns-clause-search : goal.returns-clause-search
returns-clause-search g c =
    let net : Net = net_of g.P.Primitive.behaviour c.args.basis.now.circuit.now in
    begun_anew net c.args.basis.now.boards.now c.args.basis.now.ends.now c.args.basis.now.items.now c.args.sides.now c.args.state.now c.freshen_all.new.state c.requires.ready c.requires.tables c.requires.waits c.freshen_all.ensures c.in_ok-line.line c.in_ok-line.ensures

pub returns-clause-whole : goal.returns-clause-whole
returns-clause-whole g c =
    let net : Net = net_of g.P.Primitive.behaviour c.args.basis.now.circuit.now in
    values_there net c.args.basis.now.boards.now c.args.basis.now.ends.now c.args.basis.now.items.now c.args.sides.now c.args.state.now c.freshen_all.new.state c.requires.ready c.requires.tables c.requires.waits c.freshen_all.ensures
