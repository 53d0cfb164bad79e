use Rattle.std.proofs.Common.{◌≡◌, ◌<◌, ◌&&◌, not, ℕ, Bool, length, get_or, true, false, refl, ap, sym, ◌∙◌, arith, below_more}
use Rattle.reo_joint_values.specs.declared.value.JointValue.{JointValue}
use Rattle.reo_joint_values.specs.declared.value.JointValue.TheVariants.{Jam}
use Rattle.reo_joint_values.specs.Values.{Family, value_eq}
use Rattle.reo_joint_values.proofs.Narrowing.{same_value}
use Rattle.reo_refute_base.specs.Live.{values_of}
use Rattle.reo_refute_live.specs.support.Families.{family_of}
use Rattle.reo_refute.proofs.next.LiveValues.{is_there, of_each}
use Rattle.reo_refute.proofs.next.looking.has_other.Goals as goal

both_on : (a b : Bool) → a && not b ≡ true → (a ≡ true) × (b ≡ false)
both_on true false h = (refl, refl)
both_on true true h = absurd cc
both_on false b h = absurd cc

must_be : (a b : Bool) → a && not b ≡ false → a ≡ true → b ≡ true
must_be true true h on = refl
must_be true false h on = absurd cc
must_be false b h on = absurd cc

abbrev is_other_value : Family → ℕ → JointValue → JointValue → Bool
is_other_value f j first v = f j v && not (value_eq v first)

pub returns-then-is_other-clause-other : goal.returns-then-is_other-clause-other
returns-then-is_other-clause-other c =
    let lt : c.loop-place.place < length (values_of c.args.lists.now c.args.joint) = omega (arith, c.loop-place-test.true, c.value_count-place-end.ensures) in
    let both = both_on (family_of c.args.live.now.table c.args.joint c.value_at.result) (value_eq c.value_at.result c.args.first) (sym c.is_other.ensures ∙ c.if-is_other.true) in
    λ _. (c.value_at.result, is_there c.args.lists.now (family_of c.args.live.now.table) c.args.joint c.loop-place.place c.value_at.result lt c.value_at.ensures both.0, both.1)

pub loop-place-preserved : goal.loop-place-preserved
loop-place-preserved c =
    below_more (λ (k : ℕ). is_other_value (family_of c.args.live.now.table) c.args.joint c.args.first (get_or (values_of c.args.lists.now c.args.joint) k Jam) ≡ false) c.loop-place.place c.loop-place.invariant
    (ap (is_other_value (family_of c.args.live.now.table) c.args.joint c.args.first) (sym c.value_at.ensures) ∙ sym c.is_other.ensures ∙ c.if-is_other.false)

pub returns-clause-none : goal.returns-clause-none
returns-clause-none c =
    let f : Family = family_of c.args.live.now.table in
    λ _. of_each (f c.args.joint) (values_of c.args.lists.now c.args.joint) (λ w. w ≡ c.args.first) (λ k lt on.
    let v : JointValue = get_or (values_of c.args.lists.now c.args.joint) k Jam in
    same_value v c.args.first (must_be (f c.args.joint v) (value_eq v c.args.first) (c.loop-place.invariant k (omega (arith, lt, c.loop-place-test.false, c.value_count-place-end.ensures))) on))
