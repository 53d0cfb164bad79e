-- Bounds that are kept stay right.
use Rattle.std.proofs.Common.{◌≡◌, ◌∙◌, inl, inr, ℕ, zero, suc, ◌+◌, ◌<◌, ◌≤◌, Bool, List, Option, Some, None, length, replicate, get_or, get_or-set_same, get_or-set_other, set, refl, ap, sym, subst, arith}
use Rattle.std.proofs.lemmas.Bool.{cases_eq}
use Rattle.std.specs.Prelude.{Contains, ◌↔◌}
use Rattle.std.proofs.lemmas.List.{length-set, length-replicate}
use Rattle.reo_values.proofs.Distinct.{below_or_last}
use Rattle.reo_net_base.specs.declared.joint.End.{End}
use Rattle.reo_net_base.specs.declared.joint.Joint.{Joint}
use Rattle.reo_net_base.specs.Behaviour.{Behaviour}
use Rattle.reo_net_base.specs.Forms.{HasForm}
use Rattle.reo_net_base.specs.Lawful.{SameShape}
use Rattle.reo_net_base.specs.Net.{Net, behaviour_at, side_at}
use Rattle.reo_net_base.specs.SameTables.{SameTable}
use Rattle.reo_net_base.specs.Shapes.{SameShapes}
use Rattle.reo_net_base.specs.Wired.{IsWired}
use Rattle.reo_net_base.proofs.Numbers.{one_table}
use Rattle.reo_net_circuit.proofs.ReshapeLemmas.{same_shape}
use Rattle.reo_net_laws.specs.Parts.{IsClosed}
use Rattle.reo_net_laws.proofs.Shapes.{shapes_twice}
use Rattle.reo_joint_values.specs.Standing.{no_joint, giver_of, taker_of}
use Rattle.reo_joint_values.specs.Many.{IsJointIn}
use Rattle.reo_weights.specs.Bounds.{sum_below, giver_rows}
use Rattle.reo_item_bounds.specs.declared.kept.Bounds.{Bounds}
use Rattle.reo_item_bounds.specs.Bounds.{ComesIn, IsBoundAt}
use Rattle.reo_item_bounds.specs.Kept.{HasNumber, with_states, IsBoundBy, AreKeptBounds, AreUnnumbered, HoldFed}
use Rattle.reo_item_bounds.specs.Laws.{KeptBoundsStay}
use Rattle.reo_item_bounds.proofs.Tables.{bound_there, place_same}

pub kept_bounds_stay : KeptBoundsStay
kept_bounds_stay net other joints shapes kept are = record {
  one_bound = are.one_bound ∙ ap length (sym joints);
  one_number = are.one_number ∙ ap length (sym joints);
  right = λ j number lt is states further.
      subst (λ (js : List Joint). HasNumber (record { primitives = states; joints = js }) j number → IsBoundAt (record { primitives = states; joints = js }) (λ (k : ℕ). get_or kept.bounds k 0) j) (sym joints)
      (are.right j number (subst (λ (js : List Joint). j < length js) joints lt) is states (shapes_twice net.primitives other.primitives states shapes further));
}

no_number : (n j number : ℕ) → get_or (replicate n None) j None ≡ Some number → ⊥
no_number zero j number is = let wrong : None ≡ Some number = is in cc
no_number (suc n) zero number is = let wrong : None ≡ Some number = is in cc
no_number (suc n) (suc j) number is = no_number n j number is

-- Without numbers nothing is claimed.
pub new_kept : (net : Net) (kept : Bounds) → length kept.bounds ≡ length net.joints → kept.numbers ≡ replicate (length net.joints) None → AreKeptBounds net kept
new_kept net kept one_bound none = record {
  one_bound = one_bound;
  one_number = ap length none ∙ length-replicate (length net.joints) None;
  right = λ j number lt is. absurd (no_number (length net.joints) j number (ap (λ (ns : List (Option ℕ)). get_or ns j None) (sym none) ∙ is));
}

module _ (net : Net) (kept : Bounds) (are : AreKeptBounds net kept) where
  -- Where the side has a form of the number that is noted, what is noted is a bound.
  pub kept_now : (j number : ℕ) → j < length net.joints → get_or kept.numbers j None ≡ Some number → HasNumber net j number → IsBoundAt net (λ (k : ℕ). get_or kept.bounds k 0) j
  kept_now j number lt is has = are.right j number lt is net.primitives (record { count = refl; same = λ i i_in. same_shape (behaviour_at net.primitives i) }) has

  exchanged : (j : ℕ) → j < length net.joints → (new : Option ℕ) → ((number : ℕ) → new ≡ Some number → IsBoundBy net kept.bounds number j)
      → AreKeptBounds net (record { bounds = kept.bounds; numbers = set kept.numbers j new })
  exchanged j lt new right = record {
    one_bound = are.one_bound;
    one_number = length-set kept.numbers j new ∙ are.one_number;
    right = λ k number k_in is. elim (cases_eq k j) [
      | inl e ↦ subst (IsBoundBy net kept.bounds number) (sym e) (right number (sym (get_or-set_same kept.numbers j new None (omega (arith, lt, are.one_number))) ∙ ap (λ (m : ℕ). get_or (set kept.numbers j new) m None) (sym e) ∙ is))
      | inr ne ↦ are.right k number k_in (sym (get_or-set_other kept.numbers j k new None ne) ∙ is)
    ];
  }

  pub forgotten : (j : ℕ) → j < length net.joints → AreKeptBounds net (record { bounds = kept.bounds; numbers = set kept.numbers j None })
  forgotten j lt = exchanged j lt None (λ number is. absurd (let wrong : None ≡ Some number = is in cc))

  module _ (wired : IsWired net) where
    -- A bound is one in each state in which the side has the form that it has now.
    bound_by : (j number : ℕ) → j < length net.joints → HasNumber net j number → IsBoundAt net (λ (k : ℕ). get_or kept.bounds k 0) j → IsBoundBy net kept.bounds number j
    bound_by j number lt here is = λ states shapes there.
        let e : End = giver_of net j in
        let b : Behaviour = behaviour_at net.primitives e.primitive in
        let d : Behaviour = behaviour_at states e.primitive in
        let shape : SameShape b d = shapes.same e.primitive (wired.givers j no_joint lt).0 in
        let there_has : HasForm there.form d (b.side_of e.end) = subst (HasForm there.form d) (shape.side_of e.end) there.has in
        let table : SameTable 0 0 b d (b.side_of e.end) = one_table here.form there.form (here.number_is ∙ sym there.number_is) 0 0 refl b d (b.side_of e.end) here.has there_has in
        bound_there net.primitives states net.joints wired 0 0 j lt shape table (λ (k : ℕ). get_or kept.bounds k 0) is

    pub checked : (j number : ℕ) → j < length net.joints → HasNumber net j number → IsBoundAt net (λ (k : ℕ). get_or kept.bounds k 0) j
        → AreKeptBounds net (record { bounds = kept.bounds; numbers = set kept.numbers j (Some number) })
    checked j number lt here is = exchanged j lt (Some number) (λ n same.
        let number_is : number ≡ n = cc in
        subst (λ (m : ℕ). IsBoundBy net kept.bounds m j) number_is (bound_by j number lt here is))

    -- What comes in at the side where a joint starts feeds it.
    feeds : (states : List Behaviour) → SameShapes net.primitives states → (j row k : ℕ) → j < length net.joints → ComesIn (with_states net states) j row k → side_at net (taker_of net k) ≡ side_at net (giver_of net j)
    feeds states shapes j row k lt comes =
        let e : End = giver_of net j in
        let t : End = taker_of net k in
        let shape : SameShape (behaviour_at net.primitives e.primitive) (behaviour_at states e.primitive) = shapes.same e.primitive (wired.givers j no_joint lt).0 in
        place_same net e t comes.primitive (sym (shape.side_of t.end) ∙ comes.side ∙ shape.side_of e.end)

    -- Another bound at one of some joints that have no number, and hold those that they feed.
    pub noted : (joints : List ℕ) → HoldFed net joints → AreUnnumbered kept.numbers joints → (k : ℕ) → Contains joints k → (x : ℕ) → AreKeptBounds net (record { bounds = set kept.bounds k x; numbers = kept.numbers })
    noted joints fed none k is_in x = record {
      one_bound = length-set kept.bounds k x ∙ are.one_bound;
      one_number = are.one_number;
      right = λ j number lt is states shapes has.
          let at : IsBoundAt (with_states net states) (λ (i : ℕ). get_or kept.bounds i 0) j = are.right j number lt is states shapes has in
          let out : Contains joints j → ⊥ = λ h. let wrong : None ≡ Some number = sym (none j h) ∙ is in cc in
          let same : (i : ℕ) → (Contains joints i → ⊥) → get_or kept.bounds i 0 ≡ get_or (set kept.bounds k x) i 0 = λ i not. sym (get_or-set_other kept.bounds k i x 0 (λ eq. not (subst (Contains joints) (sym eq) is_in))) in
          record {
            share = at.share;
            together = subst (λ (m : ℕ). sum_below (giver_rows (with_states net states) j) at.share ≤ m) (same j out) at.together;
            one = at.one;
            passed = λ row i comes. subst (λ (m : ℕ). m ≤ at.share row) (same i (λ h. out (fed i j h lt (feeds states shapes j row i lt comes)))) (at.passed row i comes);
            few = subst (λ (m : ℕ). m ≤ 256) (same j out) at.few;
          };
    }

-- The joints of a closed set hold those that they feed.
pub part_holds : (net : Net) (inside : ℕ → Bool) → IsClosed net inside → (joints : List ℕ) → ((j : ℕ) → Contains joints j ↔ IsJointIn net inside j) → HoldFed net joints
part_holds net inside closed joints exact k j is lt same =
    let at : IsJointIn net inside k = (exact k).0 is in
    (exact j).1 (lt, ap inside (sym same) ∙ sym (closed.along k no_joint at.0) ∙ at.1)

-- One joint more has no number.
pub unnumbered_more : (numbers : List (Option ℕ)) (joints : List ℕ) (index m : ℕ) → get_or joints index 0 < length numbers → ((n : ℕ) → n < index → get_or numbers (get_or joints n 0) None ≡ None)
    → m < index + 1 → get_or (set numbers (get_or joints index 0) None) (get_or joints m 0) None ≡ None
unnumbered_more numbers joints index m in_range far lt = elim (cases_eq (get_or joints m 0) (get_or joints index 0)) [
  | inl e ↦ ap (λ (k : ℕ). get_or (set numbers (get_or joints index 0) None) k None) e ∙ get_or-set_same numbers (get_or joints index 0) None None in_range
  | inr ne ↦
      let before : get_or numbers (get_or joints m 0) None ≡ None = elim (below_or_last m index lt) [ inl below ↦ far m below | inr same ↦ absurd (ne (ap (λ (k : ℕ). get_or joints k 0) same)) ] in
      get_or-set_other numbers (get_or joints index 0) (get_or joints m 0) None None ne ∙ before
]
