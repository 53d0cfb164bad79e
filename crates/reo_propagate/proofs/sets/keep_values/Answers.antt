use Rattle.std.proofs.Common.{◌≡◌, ◌∙◌, ◌<◌, ◌≤◌, ◌+◌, ℕ, List, Bool, true, get_or, set, length, ap, sym, subst, arith}
use Rattle.std.proofs.lemmas.Bool.{ltb-true, lt-ltb}
use Rattle.std.proofs.lemmas.List.{length-take-le}
use Rattle.reo_joint_values.specs.declared.value.JointValue.{JointValue}
use Rattle.reo_rows.specs.RowFlags.{flag}
use Rattle.reo_rows.specs.Sets.{family_of}
use Rattle.reo_propagate.specs.ListedSets.{in_set}
use Rattle.reo_propagate.proofs.Listed.{IsKeeping, in_set_at, some_in, keeping_more, keeping_less}
use Rattle.reo_propagate.proofs.sets.keep_values.Goals.{then-is_set, else-is_set}
use Rattle.reo_propagate.proofs.sets.keep_values.Goals as goal

pub is_set-requires-clause-place : goal.is_set-requires-clause-place
is_set-requires-clause-place c =
    let w : JointValue = c.at-value.result.now in
    let index : ℕ = c.loop-index.index in
    let lt : index < length c.args.values.now = omega (arith, c.loop-index-test.true, c.len-index-end.ensures) in
    let is : w ≡ get_or c.args.values.now index w = c.at-value.ensures ∙ c.loop-index.invariant.rest index w (omega arith) in
    let there : in_set c.args.values.now w ≡ true = ap (in_set c.args.values.now) is ∙ in_set_at c.args.values.now index w lt in
    omega (arith, c.requires.flags w there, c.code_of.ensures)

pub loop-index-preserved : goal.loop-index-preserved
loop-index-preserved c =
    let alive : List (List Bool) = c.args.alive.now in
    let joint : ℕ = c.args.joint in
    let index : ℕ = c.loop-index.index in
    let old : List JointValue = c.args.values.now in
    let now : List JointValue = c.loop-index.values in
    let w : JointValue = c.at-value.result.now in
    let lt : index < length old = omega (arith, c.loop-index-test.true, c.len-index-end.ensures) in
    let has : family_of alive joint w ≡ c.is_set.result = ap (λ (k : ℕ). flag alive joint k) (sym c.code_of.ensures) ∙ sym c.is_set.ensures in
    let P : ℕ → List JointValue → Type 0 = λ k l. IsKeeping alive joint (index + 1) k old l in
    elim c.if-is_set.branch [
      | then-is_set x ↦ subst (P c.if-is_set.count) (sym x.values-is) (subst (λ (k : ℕ). P k (set now c.loop-index.count w)) (sym x.count-is)
          (keeping_more alive joint index c.loop-index.count old now c.loop-index.invariant w lt c.at-value.ensures (has ∙ x.if-is_set.true)))
      | else-is_set x ↦ subst (P c.if-is_set.count) (sym x.values-is) (subst (λ (k : ℕ). P k now) (sym x.count-is)
          (keeping_less alive joint index c.loop-index.count old now c.loop-index.invariant w lt c.at-value.ensures (has ∙ x.if-is_set.false)))
    ]

pub returns-clause-some : goal.returns-clause-some
returns-clause-some c =
    let few : c.loop-index.count ≤ length c.loop-index.values = omega (arith, c.loop-index.invariant.few, c.loop-index.invariant.size, c.loop-index.auto.index-end, c.len-index-end.ensures) in
    let size : length c.truncate.new.self ≡ c.loop-index.count = ap (λ (l : List JointValue). length l) c.truncate.ensures ∙ length-take-le c.loop-index.count c.loop-index.values few in (
      λ t. (some_in c.truncate.new.self).0 (omega (arith, size, ltb-true 0 c.loop-index.count t)),
      λ s. lt-ltb 0 c.loop-index.count (let some : 0 < length c.truncate.new.self = (some_in c.truncate.new.self).1 s in omega (arith, some, size)),
    )
