use Rattle.std.proofs.Common.{◌≡◌, ◌∙◌, ℕ, ◌+◌, ap, sym, subst, arith}
use Rattle.std.proofs.lemmas.Bool.Decides.{nat_tests}
use Rattle.reo_net_base.specs.Behaviour.{Behaviour}
use Rattle.reo_net_base.specs.Net.{Net, behaviour_at, net_of}
use Rattle.reo_planning.specs.declared.kept.Kept.{Kept}
use Rattle.reo_planning.specs.Unsettling.{AreUnsettledWhere, IsMarkedBetween}
use Rattle.reo_planning.proofs.Unsettled.{none_marked, unsettled_more, unsettled_none, unsettled_over}
use Rattle.reo_planning.proofs.kept.Kept.unsettle_between.Goals.{then-is_between, else-is_between}
use Rattle.reo_planning.proofs.kept.Kept.unsettle_between.Goals as goal

pub loop-primitive-init : goal.loop-primitive-init
loop-primitive-init g c =
    let net : Net = net_of g.P.Primitive.behaviour c.args.circuit.now in
    let next : ℕ = c.next_set-primitive.result in
    let is = c.next_set-primitive.ensures in
    record {
      in_range = is.in_range;
      here = is.here;
      far = unsettled_over net c.args.knots.now (IsMarkedBetween net c.args.marks.now) 0 next c.args.self.now c.args.self.now (omega (arith, is.from_on))
          (λ i le lt both. none_marked c.args.marks.now 0 next is i le lt both.0) (unsettled_none net c.args.knots.now (IsMarkedBetween net c.args.marks.now) c.args.self.now);
    }

pub loop-primitive-preserved : goal.loop-primitive-preserved
loop-primitive-preserved g c =
    let net : Net = net_of g.P.Primitive.behaviour c.args.circuit.now in
    let n : ℕ = c.loop-primitive.primitive in
    let next : ℕ = c.next_set-primitive-in-loop-primitive.result in
    let is = c.next_set-primitive-in-loop-primitive.ensures in
    let far = c.loop-primitive.invariant.far in
    let sides : c.sides-is_between.result ≡ (behaviour_at net.primitives n).sides = c.sides-is_between.ensures ∙ ap (λ (b : Behaviour). b.sides) c.primitive.ensures.behaviour in
    let more : AreUnsettledWhere net c.args.knots.now (IsMarkedBetween net c.args.marks.now) (n + 1) c.args.self.now c.if-is_between.self = elim c.if-is_between.branch [
      | then-is_between w ↦
          subst (λ (kept : Kept). AreUnsettledWhere net c.args.knots.now (IsMarkedBetween net c.args.marks.now) (n + 1) c.args.self.now kept) (sym w.self-is)
          (unsettled_more net c.args.knots.now (IsMarkedBetween net c.args.marks.now) n c.args.self.now c.loop-primitive.self w.unsettle.new.self
          (c.loop-primitive.invariant.here (omega arith), sym sides ∙ grind (arith, nat_tests, w.if-is_between.true)) far w.unsettle.ensures)
      | else-is_between w ↦
          subst (λ (kept : Kept). AreUnsettledWhere net c.args.knots.now (IsMarkedBetween net c.args.marks.now) (n + 1) c.args.self.now kept) (sym w.self-is)
          (unsettled_over net c.args.knots.now (IsMarkedBetween net c.args.marks.now) n (n + 1) c.args.self.now c.loop-primitive.self (omega arith) (λ i le lt both.
          let here : i ≡ n = omega (arith, le, lt) in
          let two : c.sides-is_between.result ≡ 2 = sides ∙ subst (λ (m : ℕ). (behaviour_at net.primitives m).sides ≡ 2) here both.1 in
          grind (arith, nat_tests, two, w.if-is_between.false)) far)
    ] in
    record {
      in_range = is.in_range;
      here = is.here;
      far = unsettled_over net c.args.knots.now (IsMarkedBetween net c.args.marks.now) (n + 1) next c.args.self.now c.if-is_between.self (omega (arith, is.from_on))
          (λ i le lt both. none_marked c.args.marks.now (n + 1) next is i le lt both.0) more;
    }
