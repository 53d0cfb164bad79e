-- Primitives of which no end flows.
use Rattle.std.proofs.Common.{◌≡◌, ◌∙◌, inl, inr, ℕ, zero, suc, ◌+◌, ◌<◌, ◌≤◌, cond, true, List, [], ◌∷◌, length, get_or, ap, sym, refl, arith, add-zero}
use Rattle.std.proofs.lemmas.Bool.{cases_lt}
use Rattle.std.specs.Prelude.{Option, Some, None, is_some, ◌==◌}
use Rattle.std.proofs.lemmas.Bool.Decides.{nat_tests}
use Rattle.std.proofs.lemmas.List.Sums.{passes_at_first}
use Rattle.reo_values.specs.declared.value.Value.{Value}
use Rattle.reo_net_base.specs.declared.joint.Joint.{Joint}
use Rattle.reo_net_base.specs.Behaviour.{Behaviour}
use Rattle.reo_net_base.specs.Colouring.{IsColouring}
use Rattle.reo_net_base.specs.Lawful.{IsQuiet}
use Rattle.reo_net_base.specs.Net.{Net, behaviour_at, end_of, first_side, mark_at, row_at, side_at}
use Rattle.reo_net_base.specs.Step.{chosen_for, is_mouth, mouth_of, taken_for}
use Rattle.reo_net_base.specs.Wired.{IsWired}
use Rattle.reo_flows.proofs.stepping.FlowLemmas.{no_joint, with_item}
use Rattle.reo_flows.specs.stepping.Changes.{HasFlow}

-- No end of a primitive flows.
abbrev pub IsStill : Net → List ℕ → ℕ → Type 0
IsStill net rows i = HasFlow net rows i → ⊥

-- The mark of an end by the row of its side.
mark_is : (net : Net) (rows : List ℕ) (i end side : ℕ) → (behaviour_at net.primitives i).side_of end ≡ side
    → mark_at net rows (end_of i end) ≡ (behaviour_at net.primitives i).mark side (get_or rows (first_side net.primitives i + side) 0) end
unfolding mark_at row_at side_at
mark_is net rows i end side is =
    ap (λ (s : ℕ). (behaviour_at net.primitives i).mark s (get_or rows (first_side net.primitives i + s) 0) end) is

module _ (net : Net) (rows : List ℕ) (items : List (Option Value)) (wired : IsWired net) (is : IsColouring net rows items) where
  -- The rows of a primitive of which no end flows.
  pub quiet_rows : (i : ℕ) → i < length net.primitives → IsStill net rows i → IsQuiet (behaviour_at net.primitives i) (chosen_for net rows i)
  quiet_rows i i_in still =
      let b : Behaviour = behaviour_at net.primitives i in
      let lawful = wired.lawful i i_in in
      record {
        first = λ end of flows. still record {
          end = end;
          is_end = of.0;
          flows = mark_is net rows i end 0 of.1 ∙ ap (λ (n : ℕ). b.mark 0 (get_or rows n 0) end) (add-zero (first_side net.primitives i)) ∙ flows;
        };
        second = λ end of flows.
            let below = lawful.sides_in end of.0 in
            let few = lawful.few_sides in
            let side = of.1 in
            let two : (b.sides == 2) ≡ true = grind (arith, nat_tests) in
            let row : (chosen_for net rows i).second ≡ get_or rows (first_side net.primitives i + 1) 0 = ap (λ t. cond t (get_or rows (first_side net.primitives i + 1) 0) 0) two in
            still record {
              end = end;
              is_end = of.0;
              flows = mark_is net rows i end 1 of.1 ∙ ap (λ (n : ℕ). b.mark 1 n end) (sym row) ∙ flows;
            };
      }

  mouth_at : (b : Behaviour) (i : ℕ) (j : Joint) → is_mouth b i j ≡ true → j.taker.primitive ≡ i
  mouth_at b i j passes = grind (arith, nat_tests)

  not_some : (o : Option Value) → (is_some o ≡ true → ⊥) → o ≡ None
  not_some None none = refl
  not_some (Some x) none = absurd (none refl)

  past_end : (xs : List (Option Value)) (k : ℕ) → length xs ≤ k → get_or xs k None ≡ None
  past_end [] k le = refl
  past_end (x ∷ xs) zero le = absurd (omega arith)
  past_end (x ∷ xs) (suc k) le = past_end xs k (omega arith)

  -- Its mouth takes nothing.
  pub nothing_taken : (i : ℕ) → IsStill net rows i → taken_for net items i ≡ None
  nothing_taken i still =
      let k : ℕ = mouth_of net i in
      let count = is.one_each in
      elim (cases_lt k (length net.joints)) [
        | inl lt ↦
            let j : Joint = get_or net.joints k no_joint in
            let here = mouth_at (behaviour_at net.primitives i) i j (passes_at_first (is_mouth (behaviour_at net.primitives i) i) net.joints no_joint lt) in
            not_some (get_or items k None) (λ some. still record {
              end = j.taker.end;
              is_end = rw here at (wired.takers k no_joint lt).1;
              flows = ap (λ p. mark_at net rows (end_of p j.taker.end)) (sym here) ∙ (with_item net rows items wired is k lt some).1;
            })
        | inr past ↦ past_end items k (omega arith)
      ]
