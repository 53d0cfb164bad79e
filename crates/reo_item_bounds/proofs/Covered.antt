-- What covers rows.
use Rattle.std.proofs.Common.{◌≡◌, ℕ, ◌+◌, ◌≤◌, inl, inr, true, List, get_or, sym, subst, arith}
use Rattle.reo_values.proofs.Distinct.{below_or_last}
use Rattle.reo_net_base.specs.declared.branches.Branches.{Branches}
use Rattle.reo_net_base.specs.declared.form.Form.{Form}
use Rattle.reo_net_base.specs.declared.form.Form.TheVariants.{Merging}
use Rattle.reo_net_base.specs.declared.joint.End.{End}
use Rattle.reo_net_base.specs.declared.mark.Mark.TheVariants.{F}
use Rattle.reo_net_base.specs.Behaviour.{Behaviour}
use Rattle.reo_net_base.specs.Forms.{mark_by}
use Rattle.reo_net_base.specs.Net.{end_of}
use Rattle.reo_net_circuit.specs.found_ends.Ends.{joint_at}
use Rattle.reo_item_bounds.specs.Shares.{Covers, IsShare, AreShared}
use Rattle.reo_item_bounds.proofs.Places.{merger_flows}
use Rattle.reo_item_bounds.proofs.Sums.{more, more_before, more_here, sum_more}

module _ (b : Behaviour) (ends : List (List ℕ)) (bounds : List ℕ) where
  abbrev noted_at : ℕ → ℕ → ℕ
  noted_at primitive end = get_or bounds (joint_at ends (end_of primitive end)) 0

  -- By a merger's row, its input and its output.
  pub merger_covered : (primitive side row most : ℕ) (branches : Branches)
      → (b.takes_in branches.count ≡ true → noted_at primitive branches.count ≤ most)
      → (b.takes_in row ≡ true → noted_at primitive row ≤ most)
      → Covers b primitive side (Merging branches) ends bounds row most
  merger_covered primitive side row most branches output input end place takes flows =
      elim ((merger_flows branches.count row end place flows).1) [
        | inl e ↦ subst (λ (k : ℕ). noted_at primitive k ≤ most) (sym e) (input (subst (λ (k : ℕ). b.takes_in k ≡ true) e takes))
        | inr e ↦ subst (λ (k : ℕ). noted_at primitive k ≤ most) (sym e) (output (subst (λ (k : ℕ). b.takes_in k ≡ true) e takes))
      ]

  -- One row more that has a share.
  pub shared_more : (giver : End) (form : Form) (row sum share : ℕ) → AreShared b giver form ends bounds row sum
      → IsShare b giver.primitive (b.side_of giver.end) form ends bounds row share → AreShared b giver form ends bounds (row + 1) (sum + share)
  shared_more giver form row sum share are is = record {
    share = more row share are.share;
    together = let whole = sum_more row share are.share in let before = are.together in omega (arith, whole, before);
    each = λ r lt flows. elim (below_or_last r row lt) [
      | inl below ↦ subst (IsShare b giver.primitive (b.side_of giver.end) form ends bounds r) (sym (more_before row share are.share r below)) (are.each r below flows)
      | inr e ↦ subst (λ (k : ℕ). IsShare b giver.primitive (b.side_of giver.end) form ends bounds k (more row share are.share k)) (sym e)
          (subst (IsShare b giver.primitive (b.side_of giver.end) form ends bounds row) (sym (more_here row share are.share)) is)
    ];
  }

  -- One row more by which nothing flows.
  pub shared_skip : (giver : End) (form : Form) (row sum : ℕ) → AreShared b giver form ends bounds row sum → (mark_by form row giver.end ≡ F → ⊥) → AreShared b giver form ends bounds (row + 1) sum
  shared_skip giver form row sum are not = record {
    share = more row 0 are.share;
    together = let whole = sum_more row 0 are.share in let before = are.together in omega (arith, whole, before);
    each = λ r lt flows. elim (below_or_last r row lt) [
      | inl below ↦ subst (IsShare b giver.primitive (b.side_of giver.end) form ends bounds r) (sym (more_before row 0 are.share r below)) (are.each r below flows)
      | inr e ↦ absurd (not (subst (λ (k : ℕ). mark_by form k giver.end ≡ F) e flows))
    ];
  }

  pub shared_none : (giver : End) (form : Form) → AreShared b giver form ends bounds 0 0
  shared_none giver form = record { share = λ _. 0; together = omega arith; each = λ r lt flows. absurd (omega arith) }
