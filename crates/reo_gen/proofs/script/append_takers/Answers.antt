use Rattle.std.proofs.Common.{arith, ◌+◌}
use Rattle.reo_gen.specs.Scripts.{taker_line}
use Rattle.reo_gen.proofs.Ranges.{text_more}
use Rattle.reo_gen.proofs.script.append_takers.Goals as goal

pub loop-number-preserved : goal.loop-number-preserved
loop-number-preserved c =
    text_more taker_line 0 c.loop-number.number (c.loop-number.number + 1) c.loop-number.number c.args.text.now c.loop-number.text c.append_taker.new.text (omega arith) (omega arith)
    c.loop-number.invariant c.in_ok-append_taker.ensures
