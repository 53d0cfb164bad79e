use Rattle.std.proofs.Common.{◌≡◌, ◌+◌, ◌∙◌, ℕ, List, Bool, true, inl, inr, sym, subst}
use Rattle.std.proofs.lemmas.Bool.{both_ways}
use Rattle.reo_net_base.specs.Net.{Net, net_of}
use Rattle.reo_joint_values.specs.Values.{Names}
use Rattle.reo_rows.specs.declared.rows.Rows.{Rows}
use Rattle.reo_rows.specs.RowFlags.{flag}
use Rattle.reo_rows.specs.Sets.{names_of}
use Rattle.reo_propagate.specs.declared.thinning.Loss.{Loss}
use Rattle.reo_propagate.proofs.Thinned.{IsThinning, thinning_keep, thinning_clear}
use Rattle.reo_propagate.proofs.thinning.thin.Goals.{then-is_set+then-not-is_used, else-is_set, else-is_set-via-then-is_set+else-not-is_used, else-is_set-via-else-is_set}
use Rattle.reo_propagate.proofs.thinning.thin.Goals as goal

pub loop-code-preserved : goal.loop-code-preserved
loop-code-preserved g c =
    let net : Net = net_of g.P.Primitive.behaviour c.args.basis.now.circuit.now in
    let names : Names = names_of c.args.basis.now.items.now in
    let side : ℕ = c.args.side in
    let joint : ℕ = c.args.joint in
    let code : ℕ = c.loop-code.code in
    let rows : Rows = c.args.rows.now in
    let old : List (List Bool) = c.args.alive.now in
    let P : List (List Bool) → Loss → Type 0 = λ t x. IsThinning net names side joint (code + 1) rows old t x in
    elim c.if-is_set.branch [
      | then-is_set+then-not-is_used w ↦
          let has : flag c.loop-code.alive joint code ≡ true = sym c.is_set.ensures ∙ w.if-is_set.true in
          subst (P c.if-is_set.alive) (sym w.loss-is) (subst (λ (t : List (List Bool)). P t w.with-loss.result) (sym w.alive-is)
          (thinning_clear net names side joint rows old code c.loop-code.alive c.loop-code.loss c.loop-code.invariant w.clear.new.self w.with-loss.result
          w.clear.ensures.alike w.clear.ensures.flags w.clear.ensures.fewer w.with-loss.ensures.some w.with-loss.ensures.flow has
          (λ start sifted seen there used. both_ways w.is_used.result w.if-not-is_used.true ((w.is_used.ensures start sifted seen there).1 used))))
      | else-is_set w ↦
          subst (P c.if-is_set.alive) (sym w.loss-is) (subst (λ (t : List (List Bool)). P t c.loop-code.loss) (sym w.alive-is) (elim w.else-is_set.branch [
            | else-is_set-via-then-is_set+else-not-is_used x ↦
                thinning_keep net names side joint rows old code c.loop-code.alive c.loop-code.loss c.loop-code.invariant
                (inl (λ start sifted seen there. (x.is_used.ensures start sifted seen there).0 x.if-not-is_used.false))
            | else-is_set-via-else-is_set x ↦
                thinning_keep net names side joint rows old code c.loop-code.alive c.loop-code.loss c.loop-code.invariant (inr (sym c.is_set.ensures ∙ x.if-is_set.false))
          ]))
    ]
