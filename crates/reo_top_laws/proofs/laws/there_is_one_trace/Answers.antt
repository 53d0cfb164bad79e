use Rattle.std.proofs.Common.{sym, subst}
use Rattle.reo_net_base.specs.Net.{net_of}
use Rattle.reo_kinds.specs.Kinds.{behaviour_of}
use Rattle.reo_rounds.specs.Order.{HasOrder}
use Rattle.reo_runs.proofs.run_texts.ProgramOrder.{program_order}
use Rattle.reo_runs.specs.Run.{start_of}
use Rattle.reo_command.specs.Readings.{FlatCircuit}
use Rattle.reo_top_laws.proofs.TraceLemmas.{one_trace_of}
use Rattle.reo_top_laws.proofs.laws.there_is_one_trace.Goals as goal

pub returns : goal.returns
returns c limits circuit script r short reads =
    let p = reads.0.program in
    let made = c.circuits_are_made.ensures p.declarations (c.circuit_names_are_plain.ensures circuit p short reads.0.says) reads.0.accepted.no_break in
    let order = program_order c.order_exists.ensures p.declarations made reads.0.accepted.no_cycle in
    let here : HasOrder (net_of behaviour_of r.flat.wiring) = subst (λ (f : FlatCircuit). HasOrder (net_of behaviour_of f.wiring)) (sym reads.0.is) order in
    let start = start_of r.flat.wiring r.script.components in
    one_trace_of limits r (c.trace_exists.ensures limits.budget limits.rounds start here) (c.one_trace.ensures limits.budget limits.rounds start here)
