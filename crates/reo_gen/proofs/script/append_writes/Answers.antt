use Rattle.std.proofs.Common.{arith, ◌+◌}
use Rattle.reo_gen.specs.Scripts.{write_text}
use Rattle.reo_gen.proofs.Ranges.{text_more}
use Rattle.reo_gen.proofs.script.append_writes.Goals as goal

pub loop-item-preserved : goal.loop-item-preserved
loop-item-preserved c =
    text_more write_text 0 c.loop-item.item (c.loop-item.item + 1) c.loop-item.item c.args.text.now c.loop-item.text c.append_write.new.text (omega arith) (omega arith)
    c.loop-item.invariant c.in_ok-append_write.ensures
