use Rattle.reo_rounds.specs.Rules.{rules_of}
use Rattle.reo_rounds.specs.Lasting.{KeepsShape}
use Rattle.reo_runs.proofs.OneLemmas.{one_run}
use Rattle.reo_runs.proofs.laws.one_trace.Goals as goal

pub returns : goal.returns
returns g c =
    let r = rules_of g.P.Primitive.behaviour g.P.Primitive.settled g.P.Ported.port_state g.P.Ported.placed g.P.Ported.withdrawn in
    let shape : KeepsShape r = record { lawful = g.met.P.Primitive.lawful; settled = g.met.P.Primitive.settled_shape; placed = g.met.P.Ported.placed_shape; withdrawn = g.met.P.Ported.withdrawn_shape } in
    λ budget limit start order. one_run r budget limit shape c.first_is_one.ensures c.cause_is_one.ensures start order
