use Rattle.std.proofs.Common.{◌∙◌, ◌++◌}
use Rattle.reo_drawing.specs.Pictures.{primitive_line}
use Rattle.reo_drawing.specs.Vertices.{vertex_line}
use Rattle.reo_drawing.proofs.NumberedLemmas.{numbered_more}
use Rattle.reo_drawing.proofs.picture.append_primitives.Goals as goal

pub loop-number-preserved : goal.loop-number-preserved
loop-number-preserved c =
    numbered_more (primitive_line c.args.ports.now c.args.lost.now) c.loop-number.number c.args.kinds.now c.index-kinds-number.result c.args.text.now c.loop-number.text c.append_vertex.new.text
    c.loop-number-test.true c.index-kinds-number.is c.loop-number.invariant
    (c.in_ok-append_vertex.ensures ∙ (λ i. c.loop-number.text ++ vertex_line c.loop-number.number (c.name_of-name.ensures i) c.index-kinds-number.result (c.is_lost.ensures i)))
