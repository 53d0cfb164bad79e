use Rattle.std.proofs.Common.{◌≡◌, ◌∙◌, ◌++◌, ap, codes}
use Rattle.std.proofs.lemmas.Result.{on_ok_weaker}
use Rattle.reo_drawing.specs.label_texts.Escape.{label}
use Rattle.reo_drawing.specs.label_texts.Items.{item_text}
use Rattle.reo_drawing.specs.Joints.{item_point}
use Rattle.reo_drawing.proofs.NumberedLemmas.{three}
use Rattle.reo_drawing.proofs.joint.append_item_point.Goals as goal

pub returns : goal.returns
unfolding item_point
returns c =
    let t = c.args.text.now in
    let a = codes "xlabel=" in
    let b = label c.as_slice.result.now in
    let d = codes " shape=point width=0.1" in
    let words : c.as_slice.result.now ≡ item_text c.args.item.now = c.as_slice.ensures ∙ c.in_ok-append_item.ensures ∙ ap (λ x. x ++ item_text c.args.item.now) c.new-words.ensures in
    on_ok_weaker c.append-2.result
    (λ last. last ∙ ap (λ x. x ++ d) c.in_ok-append_label.ensures ∙ ap (λ x. (x ++ b) ++ d) c.in_ok-append.ensures.ok ∙ three t a b d ∙ ap (λ w. t ++ ((a ++ label w) ++ d)) words)
    c.append-2.ensures.ok
