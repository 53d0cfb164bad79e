use Rattle.std.proofs.Common.{inl, inr, ℕ, ◌+◌, Bool, List, sym, ◌∙◌, subst}
use Rattle.reo_net_base.specs.Net.{Net, net_of}
use Rattle.reo_propagate.specs.declared.thinning.Loss.{Loss}
use Rattle.reo_rows.specs.Sets.{value_of}
use Rattle.reo_walk.specs.declared.place.KeyPlace.{KeyPlace}
use Rattle.reo_walk.specs.Holding.{IsHeldTo}
use Rattle.reo_walk.proofs.Holding.{hold_keep, hold_clear, suits_is}
use Rattle.reo_walk.proofs.hold.hold_joint.Goals as goal
use Rattle.reo_walk.proofs.hold.hold_joint.Goals.{then-is_set+then-not-suits, else-is_set, else-is_set-via-then-is_set+else-not-suits, else-is_set-via-else-is_set}

pub loop-code-preserved : goal.loop-code-preserved
loop-code-preserved g c =
    let net : Net = net_of g.P.Primitive.behaviour c.args.circuit.now in
    let p : KeyPlace = c.args.place in
    let row : ℕ = c.args.row in
    let joint : ℕ = c.args.joint in
    let code : ℕ = c.loop-code.code in
    let old : List (List Bool) = c.args.alive.now in
    elim c.if-is_set.branch [
      | then-is_set+then-not-suits w ↦
          let is = suits_is net p row joint c.side_of_place-side.result (value_of code) w.mark_seen.result c.mark_at_joint-mark.result c.side_of_place-side.ensures c.requires.joint.here w.mark_seen.ensures c.mark_at_joint-mark.ensures in
          subst (λ (l : Loss). IsHeldTo net p row joint (code + 1) old c.if-is_set.alive l) (sym w.loss-is)
          (subst (λ (t : List (List Bool)). IsHeldTo net p row joint (code + 1) old t w.one_more-loss.result) (sym w.alive-is)
          (hold_clear net p row joint code old c.loop-code.alive c.loop-code.loss c.loop-code.invariant w.clear.new.self w.one_more-loss.result w.clear.ensures.alike w.clear.ensures.flags
          (is ∙ sym w.suits.ensures ∙ w.if-not-suits.true) w.one_more-loss.ensures.some w.one_more-loss.ensures.flow))
      | else-is_set w ↦
          subst (λ (l : Loss). IsHeldTo net p row joint (code + 1) old c.if-is_set.alive l) (sym w.loss-is)
          (subst (λ (t : List (List Bool)). IsHeldTo net p row joint (code + 1) old t c.loop-code.loss) (sym w.alive-is) (elim w.else-is_set.branch [
            | else-is_set-via-then-is_set+else-not-suits x ↦
                let is = suits_is net p row joint c.side_of_place-side.result (value_of code) x.mark_seen.result c.mark_at_joint-mark.result c.side_of_place-side.ensures c.requires.joint.here x.mark_seen.ensures c.mark_at_joint-mark.ensures in
                hold_keep net p row joint code old c.loop-code.alive c.loop-code.loss c.loop-code.invariant (inl (is ∙ sym x.suits.ensures ∙ x.if-not-suits.false))
            | else-is_set-via-else-is_set x ↦
                hold_keep net p row joint code old c.loop-code.alive c.loop-code.loss c.loop-code.invariant (inr (sym c.is_set.ensures ∙ x.if-is_set.false))
          ]))
    ]
