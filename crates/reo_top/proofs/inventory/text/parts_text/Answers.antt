use Rattle.reo_top.proofs.inventory.LineLemmas.{line_added}
use Rattle.reo_top.proofs.inventory.text.parts_text.Goals as goal

pub loop-number-preserved : goal.loop-number-preserved
loop-number-preserved c =
    line_added c.joints-joints.result.now c.args.homes.now c.args.names.now c.primitives-primitives.result.now _ _ c.loop-number.number c.at.result.now c.at-in-loop-number.result.now _ _ _ _ _
    c.in_ok-first.ensures c.in_ok-second.ensures c.loop-number-test.true c.index-primitives-number.is c.at.ensures c.at-in-loop-number.ensures c.name_at-a.ensures c.name_at-b.ensures c.loop-number.invariant c.in_ok-append_line.ensures
