use Rattle.std.proofs.Common.{◌∙◌, ◌++◌, ap}
use Rattle.reo_drawing.specs.Pictures.{node_line}
use Rattle.reo_drawing.proofs.NumberedLemmas.{numbered_more}
use Rattle.reo_drawing.proofs.picture.append_nodes.Goals as goal

pub loop-number-preserved : goal.loop-number-preserved
loop-number-preserved c =
    numbered_more node_line c.loop-number.number c.args.names.now c.index-names-number.result c.args.text.now c.loop-number.text c.append_node.new.text c.loop-number-test.true c.index-names-number.is c.loop-number.invariant
    (c.in_ok-append_node.ensures ∙ ap (λ name. c.loop-number.text ++ node_line c.loop-number.number name) c.as_slice.ensures)
