use Rattle.std.proofs.Common.{◌<◌, ◌≤◌, ◌-◌, ◌∷◌, [], length, get_or, ap, ℕ, ◌∙◌, arith}
use Rattle.reo_joint_values.specs.declared.value.JointValue.TheVariants.{RG, GR, GG, Jam}
use Rattle.reo_refute.proofs.next.LiveValues.{flow_at, rest_at}
use Rattle.reo_refute.proofs.next.values.value_at.Goals as goal

pub returns-then-place-items : goal.returns-then-place-items
returns-then-place-items c =
    let lt : c.args.place < length c.index-lists-joint.result = omega (arith, c.if-place-items.true, c.len-items.ensures) in
    flow_at c.args.lists.now c.args.joint c.index-lists-joint.result c.requires.joint c.index-lists-joint.is c.args.place lt

pub returns-else-place-items : goal.returns-else-place-items
returns-else-place-items c =
    let past : length c.index-lists-joint.result ≤ c.args.place = omega (arith, c.if-place-items.false, c.len-items.ensures) in
    rest_at c.args.lists.now c.args.joint c.index-lists-joint.result c.requires.joint c.index-lists-joint.is c.args.place past c.still_at.result
    (c.still_at.ensures ∙ ap (λ (n : ℕ). get_or (RG ∷ GR ∷ GG ∷ Jam ∷ []) (c.args.place - n) Jam) c.len-items.ensures)
