use Rattle.reo_net_base.specs.Net.{net_of}
use Rattle.reo_propagate.specs.declared.state.State.{State}
use Rattle.reo_propagate.specs.ListedSets.{listed}
use Rattle.reo_propagate.proofs.Begun.{begun}
use Rattle.reo_propagate.proofs.sets.begin_with.Goals as goal

pub returns-clause-search : goal.returns-clause-search
returns-clause-search g c =
    let state : State = record { alive = c.in_ok-alive.alive; rows = c.in_ok-rows.rows; queue = c.in_ok-queue.queue } in
    begun (net_of g.P.Primitive.behaviour c.args.basis.now.circuit.now) c.args.basis.now.boards.now c.args.basis.now.ends.now c.args.basis.now.items.now c.args.sides.now (listed c.args.sets.now.values) state c.sides.result
    c.requires.boards c.requires.ends c.requires.items c.in_ok-alive.ensures c.in_ok-rows.ensures.tables c.in_ok-rows.ensures.all c.sides.ensures c.in_ok-queue.ensures.waits c.in_ok-queue.ensures.line
