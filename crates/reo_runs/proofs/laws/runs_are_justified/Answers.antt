use Rattle.reo_rounds.specs.Rules.{rules_of}
use Rattle.reo_rounds.specs.Lasting.{KeepsShape}
use Rattle.reo_runs.proofs.JustifiedLemmas.{run_justified}
use Rattle.reo_runs.proofs.laws.runs_are_justified.Goals as goal

pub returns : goal.returns
returns g c =
    let r = rules_of g.P.Primitive.behaviour g.P.Primitive.settled g.P.Ported.port_state g.P.Ported.placed g.P.Ported.withdrawn in
    let shape : KeepsShape r = record { lawful = g.met.P.Primitive.lawful; settled = g.met.P.Primitive.settled_shape; placed = g.met.P.Ported.placed_shape; withdrawn = g.met.P.Ported.withdrawn_shape } in
    λ budget limit start wired. run_justified r shape budget limit c.first_flows.ensures c.first_jams_for_cause.ensures c.idle_means_no_flow.ensures start wired
