use Rattle.std.proofs.Common.{rules}
use Rattle.std.specs.Prelude.{IfOk}
use Rattle.reo_runs.specs.Run.{start_of}
use Rattle.reo_verify.proofs.VerdictLemmas.{only_by}
use Rattle.reo_draw_replay.specs.declared.showing.Shown.{Shown}
use Rattle.reo_draw_replay.specs.Shown.{IsShown}
use Rattle.reo_draw_replay.proofs.ShownLemmas.{one_shown}
use Rattle.reo_draw_replay.proofs.showing.show_round.Goals as goal

pub returns-clause-only : goal.returns-clause-only
returns-clause-only c = λ shown is.
    let start = start_of c.args.flat.circuit c.args.script.components in
    let exact : IfOk c.shown_of.result (IsShown c.args.flat.ports.list c.args.flat.nodes c.args.flat.homes start c.args.trace.now c.args.number) = search rules in
    only_by c.shown_of.result (IsShown c.args.flat.ports.list c.args.flat.nodes c.args.flat.homes start c.args.trace.now c.args.number) shown
    (λ (answer : Shown) holds. one_shown c.args.flat.ports.list c.args.flat.nodes c.args.flat.homes start c.args.trace.now c.args.number c.one_verdict.ensures c.one_round.ensures c.known_order.ensures answer shown holds is) exact
