use Rattle.std.proofs.Common.{arith, ◌+◌, ◌-◌}
use Rattle.reo_gen.specs.Circuits.{link_line}
use Rattle.reo_gen.proofs.Ranges.{text_more}
use Rattle.reo_gen.proofs.circuit.append_links.Goals as goal

pub loop-number-preserved : goal.loop-number-preserved
loop-number-preserved c =
    text_more link_line 1 (c.loop-number.number - 1) (c.loop-number.number + 1 - 1) c.loop-number.number c.args.text.now c.loop-number.text c.append_link.new.text (omega arith) (omega arith)
    c.loop-number.invariant c.in_ok-append_link.ensures
