use Rattle.std.proofs.Common.{rules, ◌∙◌, ap, ◌++◌}
use Rattle.reo_trace.specs.RoundText.{move_text}
use Rattle.reo_trace.proofs.Rows.{spaced-more}
use Rattle.reo_trace.proofs.text.append_flows.Goals as goal

pub loop-place-preserved : goal.loop-place-preserved
loop-place-preserved c =
    spaced-more (move_text c.args.ports.now.list) c.args.moves.now c.loop-place.place c.index-moves-place.result _ _ _ _ (search rules)
    c.loop-place.invariant c.in_ok-append_gap.ensures (c.in_ok-append_move.ensures ∙ ap (λ m. c.append_gap.new.text ++ move_text c.args.ports.now.list m) c.index-moves-place.is)
