-- A set of sides has one weight.
use Rattle.std.proofs.Common.{◌≡◌, ℕ, zero, ◌<◌, ◌≤◌, List, [], ◌∷◌, Bool, true, length, get_or, inl, refl, ap, sym, ◌∙◌, subst, arith}
use Rattle.std.specs.Prelude.{Contains, map}
use Rattle.std.proofs.lemmas.List.{length-map, get_or-map}
use Rattle.std.proofs.lemmas.List.Elements.{Contains-get_or}
use Rattle.std.proofs.lemmas.Grind.{same_number_lists}
use Rattle.reo_net_base.specs.Net.{Net}
use Rattle.reo_net_base.specs.Wired.{IsWired}
use Rattle.reo_net_laws.specs.Parts.{IsClosed}
use Rattle.reo_net_laws.specs.Knots.{IsLoop}
use Rattle.reo_joint_values.specs.Many.{IsJointIn}
use Rattle.reo_joint_values.specs.declared.value.JointValue.{JointValue}
use Rattle.reo_joint_values.specs.Values.{Names, giver_side}
use Rattle.reo_weights.specs.Weights.{AreNamed, all_values, AreSupported, IsWeight, product_of, capped}
use Rattle.reo_weights.specs.Laws.{WeightIsSmall, WeightIsOne, LooplessPartsWeighOne}
use Rattle.reo_weights.proofs.ListLemmas.{fewer, same_increasing}
use Rattle.reo_weights.proofs.MoveLemmas.{move, move_back, greatest_moves}

-- No weight is above the greatest.
pub not_above : WeightIsSmall
not_above net inside weight is = omega (arith, is.is)

module _ (net : Net) (inside : ℕ → Bool) (wired : IsWired net) (closed : IsClosed net inside) where
  -- By another naming no fewer values are supported.
  no_fewer : (a b : Names) → AreNamed net inside a → AreNamed net inside b → (j : ℕ) → IsJointIn net inside j → (xs ys : List JointValue)
      → AreSupported net a inside j xs → AreSupported net b inside j ys → length xs ≤ length ys
  no_fewer a b a_are b_are j is xs ys xs_are ys_are =
      let whole : (v : JointValue) → Contains xs v → all_values a j v ≡ true = λ v h. let g = (xs_are.exact v).0 h in g.within j (giver_side net j) v is.0 (inl refl) is.1 g.has in
      fewer xs ys (move net inside a b a_are b_are j) (λ m n d lt n_in. xs_are.once m n lt n_in d)
      (λ v w v_in w_in same. sym (move_back net inside a b a_are b_are j is v (whole v v_in)) ∙ ap (move net inside b a b_are a_are j) same ∙ move_back net inside a b a_are b_are j is w (whole w w_in))
      (λ v v_in. (ys_are.exact (move net inside a b a_are b_are j v)).1 (greatest_moves net inside wired closed a b a_are b_are j v is ((xs_are.exact v).0 v_in)))

  module _ (w x : ℕ) (p : IsWeight net inside w) (q : IsWeight net inside x) where
    same_loops : p.loops ≡ q.loops
    same_loops = same_increasing p.loops q.loops p.are_loops.increasing q.are_loops.increasing
        (λ j. (λ h. (q.are_loops.exact j).1 ((p.are_loops.exact j).0 h), λ h. (p.are_loops.exact j).1 ((q.are_loops.exact j).0 h)))

    same_counts : (m : ℕ) → m < length p.loops → length (get_or p.values m []) ≡ length (get_or q.values m [])
    same_counts m lt =
        let j : ℕ = get_or p.loops m 0 in
        let is = ((p.are_loops.exact j).0 (Contains-get_or p.loops m 0 lt)).0 in
        let p_are : AreSupported net p.names inside j (get_or p.values m []) = p.supported m lt in
        let q_are : AreSupported net q.names inside j (get_or q.values m []) =
        subst (λ (loops : List ℕ). AreSupported net q.names inside (get_or loops m 0) (get_or q.values m [])) (sym same_loops) (q.supported m (subst (λ (loops : List ℕ). m < length loops) same_loops lt)) in
        let le = no_fewer p.names q.names p.named q.named j is (get_or p.values m []) (get_or q.values m []) p_are q_are in
        let ge = no_fewer q.names p.names q.named p.named j is (get_or q.values m []) (get_or p.values m []) q_are p_are in
        omega (arith, le, ge)

    same_weight : w ≡ x
    same_weight =
        let loops : length p.loops ≡ length q.loops = ap length same_loops in
        let p_long : length (map length p.values) ≡ length p.values = length-map p.values length in
        let q_long : length (map length q.values) ≡ length q.values = length-map q.values length in
        let same : map length p.values ≡ map length q.values =
        same_number_lists (map length p.values) (map length q.values) (omega (arith, p_long, q_long, p.one_each, q.one_each, loops)) (λ k lt.
        get_or-map length p.values k [] 0 (omega (arith, lt, p_long)) ∙ same_counts k (omega (arith, lt, p_long, p.one_each))
        ∙ sym (get_or-map length q.values k [] 0 (omega (arith, lt, p_long, p.one_each, q.one_each, loops)))) in
        p.is ∙ ap (λ (ns : List ℕ). capped (product_of ns)) same ∙ sym q.is

-- A closed set of sides has one weight.
pub one_weight : WeightIsOne
one_weight net wired inside closed w x p q = same_weight net inside wired closed w x p q

-- The numbers of which nothing holds.
no_numbers : (holds : ℕ → Type 0) → ((x : ℕ) → holds x → ⊥) → (xs : List ℕ) → ((x : ℕ) → Contains xs x → holds x) → xs ≡ []
no_numbers holds none [] are = refl
no_numbers holds none (x ∷ xs) are = absurd (none x (are x (zero, omega arith, refl)))

no_values : (values : List (List JointValue)) → length values ≡ 0 → product_of (map length values) ≡ 1
no_values [] none = refl
no_values (v ∷ vs) none = absurd (omega arith)

-- Without a loop joint there is nothing to multiply.
pub loopless : LooplessPartsWeighOne
loopless net inside none weight is =
    let no_loops = no_numbers (λ j. IsJointIn net inside j × IsLoop net j) (λ j h. none j h.0 h.1) is.loops (λ j h. (is.are_loops.exact j).0 h) in
    let no_lists : length is.values ≡ 0 = is.one_each ∙ ap length no_loops in
    is.is ∙ ap capped (no_values is.values no_lists)
