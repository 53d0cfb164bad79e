-- The items at the mouths, as the primitives go on.
use Rattle.std.proofs.Common.{◌≡◌, ◌≢◌, inl, inr, ℕ, zero, suc, ◌<◌, ◌≤◌, true, Option, None, List, [], ◌∷◌, length, get_or, set, refl, ap, sym, ◌∙◌, arith, get_or-set_other}
use Rattle.std.proofs.lemmas.Bool.{cases_lt}
use Rattle.std.proofs.lemmas.Bool.Decides.{nat_tests}
use Rattle.std.proofs.lemmas.List.Sums.{passes_at_first}
use Rattle.reo_values.specs.declared.value.Value.{Value}
use Rattle.reo_net_base.specs.declared.joint.Joint.{Joint}
use Rattle.reo_net_base.specs.Behaviour.{Behaviour}
use Rattle.reo_net_base.specs.Net.{Net, behaviour_at}
use Rattle.reo_net_base.specs.Step.{is_mouth, mouth_of, taken_for}

-- Two primitives have no joint at a mouth in common.
pub mouth_test : (b : Behaviour) (i : ℕ) (j : Joint) → is_mouth b i j ≡ true → j.taker.primitive ≡ i
mouth_test b i j is = grind (arith, nat_tests)

pub mouths_apart : (net : Net) (i k : ℕ) → i ≢ k → mouth_of net i < length net.joints → mouth_of net i ≢ mouth_of net k
mouths_apart net i k ne lt e =
    let d : Joint = record { giver = record { primitive = 0; end = 0 }; taker = record { primitive = 0; end = 0 } } in
    let one = passes_at_first (is_mouth (behaviour_at net.primitives i) i) net.joints d lt in
    let other = passes_at_first (is_mouth (behaviour_at net.primitives k) k) net.joints d (rw e at lt) in
    ne (sym (mouth_test (behaviour_at net.primitives i) i (get_or net.joints (mouth_of net i) d) one) ∙ ap (λ (m : ℕ). (get_or net.joints m d).taker.primitive) e ∙ mouth_test (behaviour_at net.primitives k) k (get_or net.joints (mouth_of net k) d) other)

-- A write past the end changes nothing.
set_past : {X : Type 0} (xs : List X) (i : ℕ) (v : X) → length xs ≤ i → set xs i v ≡ xs
set_past [] i v h = refl
set_past (x ∷ xs) zero v h = absurd (omega arith)
set_past (x ∷ xs) (suc i) v h = ap (λ ys. x ∷ ys) (set_past xs i v (omega arith))

pub taken_kept : (net : Net) (items : List (Option Value)) (i k : ℕ) → length items ≡ length net.joints → i ≢ k → taken_for net (set items (mouth_of net i) None) k ≡ taken_for net items k
taken_kept net items i k n ne = elim (cases_lt (mouth_of net i) (length items)) [
  | inl lt ↦ get_or-set_other items (mouth_of net i) (mouth_of net k) None None (λ e. mouths_apart net i k ne (omega arith) (sym e))
  | inr past ↦ ap (λ (xs : List (Option Value)). get_or xs (mouth_of net k) None) (set_past items (mouth_of net i) None past)
]
