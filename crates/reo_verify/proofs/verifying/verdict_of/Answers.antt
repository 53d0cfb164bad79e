use Rattle.std.proofs.Common.{◌≡◌, List, length, ap, sym, subst, arith}
use Rattle.reo_trace.specs.declared.line.RoundLine.{RoundLine}
use Rattle.reo_trace_reader.specs.texts.Lines.{AreLines}
use Rattle.reo_rounds.specs.Rules.{rules_of}
use Rattle.reo_runs.specs.Run.{start_of}
use Rattle.reo_runs.specs.verdicts.Said.{jammed}
use Rattle.reo_verify.specs.declared.halt.Halt.{Halt}
use Rattle.reo_verify.specs.Replayed.{AreReplayed, IsHalted, IsVerdictAt}
use Rattle.reo_verify.proofs.JamLemmas.{few_jams}
use Rattle.reo_verify.proofs.ReplayLemmas.{few_lines}
use Rattle.reo_verify.proofs.VerdictLemmas.{verdict_by, refused_by}
use Rattle.reo_verify.proofs.verifying.verdict_of.Goals as goal

pub replay-requires-clause-lines : goal.replay-requires-clause-lines
replay-requires-clause-lines g c = subst (AreLines c.args.ports.now.list 1) (sym c.lines-rounds.ensures) c.requires.text.is_text.lines

pub replay-requires-clause-few : goal.replay-requires-clause-few
replay-requires-clause-few g c =
    let same = ap jammed c.lines-rounds.ensures in
    omega (arith, same, few_jams c.args.ports.now.list c.args.trace.now c.requires.text)

pub verdict_at-requires : goal.verdict_at-requires
verdict_at-requires g c =
    let same : length c.lines-rounds.result ≡ length c.args.trace.now.rounds = ap (λ (ls : List RoundLine). length ls) c.lines-rounds.ensures in
    omega (arith, same, c.in-Ok.ensures.replayed.count, few_lines c.args.ports.now.list 1 c.args.trace.now.rounds (omega arith) c.requires.text.is_text.lines)

pub returns-in-Ok : goal.returns-in-Ok
returns-in-Ok g c =
    let r = rules_of g.P.Primitive.behaviour g.P.Primitive.settled g.P.Ported.port_state g.P.Ported.placed g.P.Ported.withdrawn in
    let start = start_of c.args.circuit c.args.script.components in
    verdict_by r c.args.nodes.now c.args.homes.now start c.args.trace.now c.in-Ok.outcome _ (subst (λ ls. AreReplayed r start ls c.in-Ok.outcome) c.lines-rounds.ensures c.in-Ok.ensures.replayed)
    (subst (λ e. IsVerdictAt c.in-Ok.outcome e c.verdict_at.result) c.ending.ensures c.verdict_at.ensures)

pub returns-in-Err-Refused : goal.returns-in-Err-Refused
returns-in-Err-Refused g c =
    let r = rules_of g.P.Primitive.behaviour g.P.Primitive.settled g.P.Ported.port_state g.P.Ported.placed g.P.Ported.withdrawn in
    let start = start_of c.args.circuit c.args.script.components in
    let lines = subst (λ ls. IsHalted r c.args.nodes.now c.args.homes.now start ls c.in-Err-Refused.field-0) c.lines-rounds.ensures c.in-Err-Refused.ensures.replayed in
    refused_by r c.args.nodes.now c.args.homes.now start c.args.trace.now c.in-Err-Refused.refusal
    (subst (λ (h : Halt). IsHalted r c.args.nodes.now c.args.homes.now start c.args.trace.now.rounds h) c.in-Err-Refused.field-0-is lines)
