use Rattle.std.proofs.Common.{◌≡◌, ◌<◌, inl, inr, ℕ, length, get_or, true, subst, sym, arith}
use Rattle.std.proofs.lemmas.Bool.{cases_eq}
use Rattle.reo_net_base.specs.Net.{Net, net_of}
use Rattle.reo_joint_values.specs.declared.value.JointValue.{JointValue}
use Rattle.reo_joint_values.specs.declared.value.JointValue.TheVariants.{Jam}
use Rattle.reo_joint_values.specs.Values.{Family}
use Rattle.reo_refute_base.specs.Items.{numbered}
use Rattle.reo_refute_base.specs.Live.{values_of, HasSupport}
use Rattle.reo_refute_base.specs.Logs.{MayGo}
use Rattle.reo_refute_base.specs.Places.{IsAllowed}
use Rattle.reo_refute_live.specs.support.Families.{family_of}
use Rattle.reo_refute.proofs.next.LiveValues.{is_there, of_each}
use Rattle.reo_refute.proofs.next.joint.goes_at.Goals as goal

pub returns-then-branch : goal.returns-then-branch
returns-then-branch g c =
    let net : Net = net_of g.P.Primitive.behaviour c.args.judged.now.circuit.now in
    let lt : c.loop-place.place < length (values_of c.args.judged.now.lists.now c.args.joint) = omega (arith, c.loop-place-test.true, c.value_count-place-end.ensures) in
    let may : MayGo net c.args.judged.now.lists.now (IsAllowed net c.args.judged.now.turn c.args.judged.now.given.now c.args.judged.now.number) (family_of c.args.live.now.table) c.args.joint c.value_at-value.result c.args.side = c.in_ok-may_go.ensures.goes c.if-branch.true in
    (may, is_there c.args.judged.now.lists.now (family_of c.args.live.now.table) c.args.joint c.loop-place.place c.value_at-value.result lt c.value_at-value.ensures may.is_live)

pub loop-place-preserved : goal.loop-place-preserved
loop-place-preserved g c =
    let net : Net = net_of g.P.Primitive.behaviour c.args.judged.now.circuit.now in
    let f : Family = family_of c.args.live.now.table in
    let Stays : JointValue → Type 0 = λ v. f c.args.joint v ≡ true → HasSupport net (numbered c.args.judged.now.lists.now) (IsAllowed net c.args.judged.now.turn c.args.judged.now.given.now c.args.judged.now.number) f c.args.side c.args.joint v in
    let here : Stays (get_or (values_of c.args.judged.now.lists.now c.args.joint) c.loop-place.place Jam) = subst Stays c.value_at-value.ensures (c.in_ok-may_go.ensures.stays c.if-branch.false) in
    λ k le lt. elim (cases_eq k c.loop-place.place) [
      | inl e ↦ subst (λ (n : ℕ). Stays (get_or (values_of c.args.judged.now.lists.now c.args.joint) n Jam)) (sym e) here
      | inr ne ↦ c.loop-place.invariant k le (omega (arith, lt, ne))
    ]

pub returns : goal.returns
returns g c =
    let net : Net = net_of g.P.Primitive.behaviour c.args.judged.now.circuit.now in
    let f : Family = family_of c.args.live.now.table in
    λ start. of_each (f c.args.joint) (values_of c.args.judged.now.lists.now c.args.joint) (λ v. HasSupport net (numbered c.args.judged.now.lists.now) (IsAllowed net c.args.judged.now.turn c.args.judged.now.given.now c.args.judged.now.number) f c.args.side c.args.joint v)
    (λ k lt on. c.loop-place.invariant k (omega (arith, start)) (omega (arith, lt, c.loop-place-test.false, c.value_count-place-end.ensures)) on)
