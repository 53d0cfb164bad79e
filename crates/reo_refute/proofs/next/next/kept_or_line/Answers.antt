use Rattle.std.proofs.Common.{inl, inr, ℕ, subst, sym, arith}
use Rattle.std.proofs.lemmas.Bool.{cases_eq}
use Rattle.reo_net_base.specs.Net.{Net, net_of}
use Rattle.reo_refute_base.specs.Places.{IsAllowed}
use Rattle.reo_refute_live.specs.support.Families.{family_of}
use Rattle.reo_refute.specs.next.Next.{IsKept}
use Rattle.reo_refute.proofs.next.next.kept_or_line.Goals as goal

pub loop-joint-preserved : goal.loop-joint-preserved
loop-joint-preserved g c =
    let net : Net = net_of g.P.Primitive.behaviour c.args.judged.now.circuit.now in
    let Kept : ℕ → Type 0 = IsKept net c.args.judged.now.lists.now (IsAllowed net c.args.judged.now.turn c.args.judged.now.given.now c.args.judged.now.number) (family_of c.args.live.now.table) in
    let here : Kept c.loop-joint.joint = rw c.in-None.is at c.in_ok-line.ensures in
    λ j lt. elim (cases_eq j c.loop-joint.joint) [
      | inl e ↦ subst Kept (sym e) here
      | inr ne ↦ c.loop-joint.invariant j (omega (arith, lt, ne))
    ]
