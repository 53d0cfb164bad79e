use Rattle.std.proofs.Common.{◌∙◌, ◌++◌, ap, codes}
use Rattle.std.proofs.lemmas.Result.{on_ok_weaker}
use Rattle.reo_drawing.specs.Joints.{giver_text, link_text, arrow_text, mark_arrow, attributes_text}
use Rattle.reo_drawing.proofs.NumberedLemmas.{three}
use Rattle.reo_drawing.proofs.joint.append_giver.Goals as goal

pub returns : goal.returns
unfolding giver_text
returns c =
    let t = c.args.text.now in
    let a = link_text (codes " p") c.args.primitive (codes " -> j") c.args.number in
    let b = codes " [arrowhead=" ++ arrow_text (mark_arrow c.args.mark) c.sink_arrow-arrow.result.now in
    let d = attributes_text c.args.strand c.args.mark in
    on_ok_weaker c.append_attributes.result
    (λ last. last ∙ ap (λ x. x ++ d) c.in_ok-append_both.ensures ∙ ap (λ x. (x ++ b) ++ d) c.in_ok-append_link.ensures ∙ three t a b d
    ∙ ap (λ arrow. t ++ ((a ++ (codes " [arrowhead=" ++ arrow_text (mark_arrow c.args.mark) arrow)) ++ d)) c.sink_arrow-arrow.ensures)
    c.append_attributes.ensures
