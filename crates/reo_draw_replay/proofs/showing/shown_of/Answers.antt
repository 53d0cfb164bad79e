use Rattle.std.proofs.Common.{◌≡◌, List, length, ap, refl, sym, subst, arith}
use Rattle.reo_trace.specs.declared.line.RoundLine.{RoundLine}
use Rattle.reo_trace_reader.specs.texts.Lines.{AreLines}
use Rattle.reo_runs.specs.Run.{start_of}
use Rattle.reo_runs.specs.at_ports.Kinds.{kind_rules}
use Rattle.reo_runs.specs.verdicts.Said.{jammed}
use Rattle.reo_verify.specs.Replayed.{AreReplayed, IsHalted}
use Rattle.reo_verify.proofs.JamLemmas.{few_jams}
use Rattle.reo_verify.proofs.ReplayLemmas.{few_lines}
use Rattle.reo_verify.proofs.VerdictLemmas.{refused_by}
use Rattle.reo_verify.specs.declared.halt.Halt.{Halt}
use Rattle.reo_draw_replay.specs.Steps.{IsDrawnWithin, IsShownAt}
use Rattle.reo_draw_replay.proofs.DrawnLemmas.{drawn_none, drawn_of}
use Rattle.reo_draw_replay.proofs.ShownLemmas.{shown_by}
use Rattle.reo_draw_replay.proofs.showing.shown_of.Goals as goal

pub replay-requires-clause-lines : goal.replay-requires-clause-lines
replay-requires-clause-lines c = subst (AreLines c.args.ports.now.list 1) (sym c.lines-rounds.ensures) c.requires.text.is_text.lines

pub replay-requires-clause-few : goal.replay-requires-clause-few
replay-requires-clause-few c =
    let same = ap jammed c.lines-rounds.ensures in
    omega (arith, same, few_jams c.args.ports.now.list c.args.trace.now c.requires.text)

pub shown_at-requires : goal.shown_at-requires
shown_at-requires c =
    let same : length c.lines-rounds.result ≡ length c.args.trace.now.rounds = ap (λ (ls : List RoundLine). length ls) c.lines-rounds.ensures in
    omega (arith, same, c.in-Ok.ensures.replayed.count, few_lines c.args.ports.now.list 1 c.args.trace.now.rounds (omega arith) c.requires.text.is_text.lines)

pub returns-in-Ok : goal.returns-in-Ok
returns-in-Ok c =
    let start = start_of c.args.circuit c.args.script.components in
    shown_by c.args.ports.now.list c.args.nodes.now c.args.homes.now start c.args.trace.now c.args.number c.in-Ok.outcome c.replay.new.witness.picture _
    (subst (λ (ls : List RoundLine). AreReplayed kind_rules start ls c.in-Ok.outcome) c.lines-rounds.ensures c.in-Ok.ensures.replayed)
    (subst (λ (ls : List RoundLine). IsDrawnWithin c.args.ports.now.list c.args.nodes.now c.args.homes.now start ls (length ls) c.args.number c.replay.new.witness.picture) c.lines-rounds.ensures (drawn_of _ _ start _ c.in-Ok.ensures.seen))
    (subst (λ e. IsShownAt c.in-Ok.outcome c.replay.new.witness.picture e c.shown_at.result) c.ending.ensures c.shown_at.ensures)

pub returns-in-Err-Refused : goal.returns-in-Err-Refused
returns-in-Err-Refused c =
    let start = start_of c.args.circuit c.args.script.components in
    let lines = subst (λ (ls : List RoundLine). IsHalted kind_rules c.args.nodes.now c.args.homes.now start ls c.in-Err-Refused.field-0) c.lines-rounds.ensures c.in-Err-Refused.ensures.replayed in
    refused_by kind_rules c.args.nodes.now c.args.homes.now start c.args.trace.now c.in-Err-Refused.refusal
    (subst (λ (h : Halt). IsHalted kind_rules c.args.nodes.now c.args.homes.now start c.args.trace.now.rounds h) c.in-Err-Refused.field-0-is lines)

pub replay-requires-clause-none_seen : goal.replay-requires-clause-none_seen
replay-requires-clause-none_seen c = λ start. drawn_none _ start refl
