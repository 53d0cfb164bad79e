-- Rows that a side can do without.
use Rattle.std.proofs.Common.{◌≡◌, ◌≢◌, ◌⊎◌, inl, inr, ℕ, ◌+◌, ◌<◌, Bool, true, false, not, ◌&&◌, List, length, get_or, refl, sym, ◌∙◌, subst, arith, below_more}
use Rattle.std.specs.Bool.{◌==◌}
use Rattle.std.proofs.lemmas.Bool.{cases_eq, cases_lt, cases_Bool, both_ways}
use Rattle.reo_net_base.specs.declared.mark.Mark.TheVariants.{F}
use Rattle.reo_net_base.specs.Net.{Net}
use Rattle.reo_net_base.specs.Wired.{IsWired}
use Rattle.reo_side_tables.specs.declared.board.Flow.{Flow}
use Rattle.reo_side_tables.specs.Boards.{IsFlow}
use Rattle.reo_side_tables.specs.Listing.{StandsIn}
use Rattle.reo_side_tables.specs.Marks.{mark_at_joint, IsJointOf}
use Rattle.reo_side_tables.specs.declared.sets.Marks.{Marks}
use Rattle.reo_rows.specs.RowFlags.{flag}
use Rattle.reo_side_tables.specs.Sets.{marks_has}
use Rattle.reo_rows.specs.Sparing.{IsLacking, AreCleared}
use Rattle.reo_rows.proofs.Plain.{giver_says, taker_says}
use Rattle.reo_rows.proofs.Clearing.{was_set, other_row, other_place, gone_flag}

-- A row without flow has no mark of flow.
module _ (net : Net) (wired : IsWired net) (side row : ℕ) (flow : Flow) (is : IsFlow net side row flow) where
  flows_in : (j : ℕ) → IsJointOf net side j → mark_at_joint net side row j ≡ F → StandsIn flow.taking j ⊎ StandsIn flow.giving j
  flows_in j of flows = elim of.here [
    | inl at ↦ inr (is.giving.whole j (record { in_range = of.in_range; here = at; flows = sym (giver_says net side j row at) ∙ flows }))
    | inr at ↦ inl (is.taking.whole j (record { in_range = of.in_range; here = at; flows = sym (taker_says net side j wired of.in_range at row) ∙ flows }))
  ]

  pub still_without : length flow.taking ≡ 0 → length flow.giving ≡ 0 → (j : ℕ) → IsJointOf net side j → mark_at_joint net side row j ≢ F
  still_without none nothing j of flows = elim (flows_in j of flows) [
    | inl s ↦ absurd (omega (arith, s.1, none))
    | inr s ↦ absurd (omega (arith, s.1, nothing))
  ]

  no_taking : ((j : ℕ) → IsJointOf net side j → mark_at_joint net side row j ≢ F) → length flow.taking ≡ 0
  no_taking still = elim (cases_lt 0 (length flow.taking)) [
    | inl some ↦
        let t = is.taking.sound 0 some in
        absurd (still (get_or flow.taking 0 0) (record { in_range = t.in_range; here = inr t.here }) (taker_says net side (get_or flow.taking 0 0) wired t.in_range t.here row ∙ t.flows))
    | inr none ↦ omega arith
  ]

  no_giving : ((j : ℕ) → IsJointOf net side j → mark_at_joint net side row j ≢ F) → length flow.giving ≡ 0
  no_giving still = elim (cases_lt 0 (length flow.giving)) [
    | inl some ↦
        let t = is.giving.sound 0 some in
        absurd (still (get_or flow.giving 0 0) (record { in_range = t.in_range; here = inl t.here }) (giver_says net side (get_or flow.giving 0 0) row t.here ∙ t.flows))
    | inr none ↦ omega arith
  ]

  pub without_still : ((j : ℕ) → IsJointOf net side j → mark_at_joint net side row j ≢ F) → (length flow.taking ≡ 0) × (length flow.giving ≡ 0)
  without_still still = (no_taking still, no_giving still)

-- A cleared row.
module _ (net : Net) (side j : ℕ) (marks : Marks) (list : List ℕ) where
  pub cleared_none : (live : List (List Bool)) → AreCleared net side j marks list 0 live live
  cleared_none live = record { others = λ s row other. refl; less = λ row h. h; gone = λ m lt h. absurd (omega arith); kept = λ row h. inl h }

  module _ (n : ℕ) (start now : List (List Bool)) (are : AreCleared net side j marks list n start now) where
    -- A row that lacks nothing stays.
    pub cleared_keep : (IsLacking net now side j marks (get_or list n 0) → ⊥) → AreCleared net side j marks list (n + 1) start now
    cleared_keep has = record {
      others = are.others;
      less = are.less;
      gone = below_more (λ m. flag now side (get_or list m 0) ≡ true → marks_has marks (mark_at_joint net side (get_or list m 0) j) ≡ true) n are.gone (λ set. elim (cases_Bool (marks_has marks (mark_at_joint net side (get_or list n 0) j))) [
        | inl has_it ↦ has_it
        | inr lacks ↦ absurd (has (record { set = set; lacks = lacks }))
      ]);
      kept = are.kept;
    }

    module _ (new : List (List Bool)) (is : (i p : ℕ) → flag new i p ≡ (flag now i p && not ((i == side) && (p == get_or list n 0)))) (lt : n < length list) (lacking : IsLacking net now side j marks (get_or list n 0)) where
      -- One that lacks a mark goes.
      pub cleared_more : AreCleared net side j marks list (n + 1) start new
      cleared_more = record {
        others = λ s row other. other_row now new side (get_or list n 0) is s row other ∙ are.others s row other;
        less = λ row h. are.less row (was_set now new side (get_or list n 0) is side row h);
        gone = below_more (λ m. flag new side (get_or list m 0) ≡ true → marks_has marks (mark_at_joint net side (get_or list m 0) j) ≡ true) n
            (λ m m_lt h. are.gone m m_lt (was_set now new side (get_or list n 0) is side (get_or list m 0) h))
            (λ h. absurd (both_ways (flag new side (get_or list n 0)) (gone_flag now new side (get_or list n 0) is) h));
        kept = λ row h. elim (are.kept row h) [
          | inr went ↦ inr went
          | inl stays ↦ elim (cases_eq row (get_or list n 0)) [
            | inl same ↦ inr (
              subst (λ (r : ℕ). StandsIn list r) (sym same) (n, lt, refl),
              record { set = h; lacks = subst (λ (r : ℕ). marks_has marks (mark_at_joint net side r j) ≡ false) (sym same) lacking.lacks },
            )
            | inr other ↦ inl (other_place now new side (get_or list n 0) is side row other ∙ stays)
          ]
        ];
      }
