use Rattle.std.proofs.Common.{◌∙◌, ◌++◌, [], ap, codes}
use Rattle.std.proofs.lemmas.Result.{on_ok_weaker}
use Rattle.reo_drawing.specs.Joints.{onward_text, link_text, arrow_text, mark_arrow, attributes_text}
use Rattle.reo_drawing.specs.Strands.{source_arrow}
use Rattle.reo_drawing.proofs.NumberedLemmas.{four}
use Rattle.reo_drawing.proofs.joint.append_onward.Goals as goal

pub returns : goal.returns
unfolding onward_text
returns c =
    let a = link_text (codes " j") c.args.number (codes " -> p") c.args.primitive in
    let b = codes " [arrowtail=" ++ arrow_text (mark_arrow c.args.mark) [] in
    let d = codes " arrowhead=" ++ arrow_text [] (source_arrow c.args.strand) in
    let e = attributes_text c.args.strand c.args.mark in
    on_ok_weaker c.append_attributes.result
    (λ last. last ∙ ap (λ x. x ++ e) c.in_ok-append_single.ensures ∙ ap (λ x. (x ++ d) ++ e) c.in_ok-append_both.ensures ∙ ap (λ x. ((x ++ b) ++ d) ++ e) c.in_ok-append_link.ensures ∙ four c.args.text.now a b d e)
    c.append_attributes.ensures
