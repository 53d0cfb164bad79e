use Rattle.std.proofs.Common.{◌∙◌, sym, subst}
use Rattle.reo_net_base.specs.Net.{net_of}
use Rattle.reo_kinds.specs.Kinds.{behaviour_of}
use Rattle.reo_rounds.specs.Order.{HasOrder}
use Rattle.reo_runs.proofs.run_texts.ProgramOrder.{program_order}
use Rattle.reo_runs.specs.Run.{start_of}
use Rattle.reo_command.specs.Readings.{FlatCircuit, Runnable}
use Rattle.reo_top_laws.proofs.laws.verified_proofs_are_first.Goals as goal

pub returns : goal.returns
returns c circuit script proof claimed count short reads judged =
    let r : Runnable = claimed.work in
    let is = reads.0.0 in
    let p = is.program in
    let made = c.circuits_are_made.ensures p.declarations (c.circuit_names_are_plain.ensures circuit p short is.says) is.accepted.no_break in
    let order = program_order c.order_exists.ensures p.declarations made is.accepted.no_cycle in
    let here : HasOrder (net_of behaviour_of r.flat.wiring) = subst (λ (f : FlatCircuit). HasOrder (net_of behaviour_of f.wiring)) (sym is.is) order in
    record {
      rounds = judged.rounds;
      ending = judged.ending;
      text_is = sym reads.1 ∙ judged.proved.text_is;
      run = c.verified_rounds_are_first.ensures r.flat.ports (start_of r.flat.wiring r.script.components) judged.rounds judged.ending claimed.claim here judged.proved;
      count_is = judged.count_is;
    }
