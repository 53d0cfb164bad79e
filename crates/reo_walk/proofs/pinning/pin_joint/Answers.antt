use Rattle.std.proofs.Common.{inl, inr, ℕ, ◌+◌, Bool, List, sym, ◌∙◌, subst, arith}
use Rattle.reo_propagate.specs.declared.thinning.Loss.{Loss}
use Rattle.reo_walk.specs.Pins.{IsPinnedBelow}
use Rattle.reo_walk.proofs.Pinned.{pin_keep, pin_clear}
use Rattle.reo_walk.proofs.pinning.pin_joint.Goals as goal
use Rattle.reo_walk.proofs.pinning.pin_joint.Goals.{then-code-chosen+then-is_set, else-code-chosen, else-code-chosen-via-then-code-chosen+else-is_set, else-code-chosen-via-else-code-chosen}

pub loop-code-preserved : goal.loop-code-preserved
loop-code-preserved c =
    let joint : ℕ = c.args.joint in
    let code : ℕ = c.loop-code.code in
    let old : List (List Bool) = c.args.alive.now in
    elim c.if-code-chosen.branch [
      | then-code-chosen+then-is_set w ↦
          subst (λ (l : Loss). IsPinnedBelow joint c.args.chosen (code + 1) old c.if-code-chosen.alive l) (sym w.loss-is)
          (subst (λ (t : List (List Bool)). IsPinnedBelow joint c.args.chosen (code + 1) old t w.one_more-loss.result) (sym w.alive-is)
          (pin_clear joint c.args.chosen code old c.loop-code.alive c.loop-code.loss c.loop-code.invariant w.clear.new.self w.one_more-loss.result w.clear.ensures.alike w.clear.ensures.flags
          w.if-code-chosen.true w.one_more-loss.ensures.some w.one_more-loss.ensures.flow))
      | else-code-chosen w ↦
          subst (λ (l : Loss). IsPinnedBelow joint c.args.chosen (code + 1) old c.if-code-chosen.alive l) (sym w.loss-is)
          (subst (λ (t : List (List Bool)). IsPinnedBelow joint c.args.chosen (code + 1) old t c.loop-code.loss) (sym w.alive-is) (elim w.else-code-chosen.branch [
            | else-code-chosen-via-then-code-chosen+else-is_set x ↦ pin_keep joint c.args.chosen code old c.loop-code.alive c.loop-code.loss c.loop-code.invariant (inr (sym x.is_set.ensures ∙ x.if-is_set.false))
            | else-code-chosen-via-else-code-chosen x ↦ pin_keep joint c.args.chosen code old c.loop-code.alive c.loop-code.loss c.loop-code.invariant (inl (omega arith))
          ]))
    ]
