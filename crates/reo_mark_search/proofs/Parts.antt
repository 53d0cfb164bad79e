-- The sides of a part, as a list.
use Rattle.std.proofs.Common.{◌≡◌, inl, inr, ℕ, zero, suc, ◌+◌, ◌<◌, ◌≤◌, Bool, true, false, cond, List, [], ◌∷◌, length, slice_index, slice_index_or, refl, sym, ap, ◌∙◌, subst, arith}
use Rattle.std.specs.Prelude.{Contains, filter, nat_lt}
use Rattle.std.specs.Bool.{◌==◌}
use Rattle.std.specs.List.{range_with_len}
use Rattle.std.proofs.lemmas.Bool.{cases_eq, and_parts, ltb-true, cases_lt}
use Rattle.reo_net_base.specs.Behaviour.{Behaviour}
use Rattle.reo_net_base.specs.Net.{Net, behaviour_at, first_side}
use Rattle.reo_net_base.specs.Sides.{side_count}
use Rattle.reo_net_laws.specs.Sublists.{sides_in}
use Rattle.reo_net_laws.proofs.Sides.{first_before}
use Rattle.reo_net_laws.specs.Knots.{Knotted, AreKnots, in_knot, knot_count}

filter_at : (f : ℕ → Bool) (n a q : ℕ) → q < length (filter f (range_with_len a n)) → (f (slice_index (filter f (range_with_len a n)) q) ≡ true) × (slice_index (filter f (range_with_len a n)) q < a + n)
filter_at f zero a q lt = absurd (omega arith)
filter_at f (suc n) a q lt =
    elim (f a) as (λ t. f a ≡ t → (p : ℕ) → p < length (cond t (a ∷ filter f (range_with_len (a + 1) n)) (filter f (range_with_len (a + 1) n)))
    → (f (slice_index (cond t (a ∷ filter f (range_with_len (a + 1) n)) (filter f (range_with_len (a + 1) n))) p) ≡ true) × (slice_index (cond t (a ∷ filter f (range_with_len (a + 1) n)) (filter f (range_with_len (a + 1) n))) p < a + suc n)) [
      | true ↦ λ is p p_in. first (λ m m_in. filter_at f n (a + 1) m m_in) is p p_in
      | false ↦ λ is p p_in. let rest = filter_at f n (a + 1) p p_in in (rest.0, omega (arith, rest.1))
    ] refl q lt
  where
    first : ((m : ℕ) → m < length (filter f (range_with_len (a + 1) n)) → (f (slice_index (filter f (range_with_len (a + 1) n)) m) ≡ true) × (slice_index (filter f (range_with_len (a + 1) n)) m < (a + 1) + n))
        → f a ≡ true → (p : ℕ) → p < length (a ∷ filter f (range_with_len (a + 1) n))
        → (f (slice_index (a ∷ filter f (range_with_len (a + 1) n)) p) ≡ true) × (slice_index (a ∷ filter f (range_with_len (a + 1) n)) p < a + suc n)
    first rest is zero p_in = (is, omega arith)
    first rest is (suc p) p_in = let r = rest p (omega arith) in (r.0, omega (arith, r.1))

filter_has : (f : ℕ → Bool) (n a k : ℕ) → a ≤ k → k < a + n → f k ≡ true → Contains (filter f (range_with_len a n)) k
filter_has f zero a k le lt h = absurd (omega arith)
filter_has f (suc n) a k le lt h =
    elim (f a) as (λ t. f a ≡ t → Contains (cond t (a ∷ filter f (range_with_len (a + 1) n)) (filter f (range_with_len (a + 1) n))) k) [
      | true ↦ λ is. elim (cases_eq a k) [
        | inl e ↦ (zero, omega arith, e)
        | inr ne ↦ let rest = filter_has f n (a + 1) k (omega (arith, le, ne)) (omega (arith, lt)) h in (suc rest.0, omega (arith, rest.1), rest.2)
      ]
      | false ↦ λ is. elim (cases_eq a k) [
        | inl e ↦ let holds : f a ≡ true = ap f e ∙ h in absurd (cc)
        | inr ne ↦ filter_has f n (a + 1) k (omega (arith, le, ne)) (omega (arith, lt)) h
      ]
    ] refl

module _ (net : Net) (knots : Knotted) (are : AreKnots net knots) (part : ℕ) (part_in : part < knot_count knots) (sides : List ℕ) (is : sides ≡ slice_index_or knots.sides part []) where
  pub sides_are : sides ≡ sides_in net (in_knot knots.numbers part)
  sides_are = is ∙ are.sides_are part [] part_in

  pub side_here : (q : ℕ) → q < length sides → in_knot knots.numbers part (slice_index sides q) ≡ true
  side_here q lt =
      subst (λ (xs : List ℕ). in_knot knots.numbers part (slice_index xs q) ≡ true) (sym sides_are)
      (filter_at (in_knot knots.numbers part) (side_count net) 0 q (subst (λ (xs : List ℕ). q < length xs) sides_are lt)).0

  pub side_below : (q : ℕ) → q < length sides → slice_index sides q < side_count net
  side_below q lt =
      let below = (filter_at (in_knot knots.numbers part) (side_count net) 0 q (subst (λ (xs : List ℕ). q < length xs) sides_are lt)).1 in
      subst (λ (xs : List ℕ). slice_index xs q < side_count net) (sym sides_are) (omega (arith, below))

  pub side_listed : (k : ℕ) → k < side_count net → in_knot knots.numbers part k ≡ true → Contains sides k
  side_listed k lt h = subst (λ (xs : List ℕ). Contains xs k) (sym sides_are) (filter_has (in_knot knots.numbers part) (side_count net) 0 k (omega arith) (omega (arith, lt)) h)

-- A number is that of one side of one primitive.
pub side_one : (bs : List Behaviour) (i s j t : ℕ) → i < length bs → s < (behaviour_at bs i).sides → j < length bs → t < (behaviour_at bs j).sides → first_side bs i + s ≡ first_side bs j + t → (i ≡ j) × (s ≡ t)
side_one bs i s j t i_in s_in j_in t_in same = elim (cases_eq i j) [
  | inl e ↦ (e, let firsts = ap (first_side bs) e in omega (arith, same, firsts))
  | inr ne ↦ elim (cases_lt i j) [
    | inl less ↦ let before = first_before bs i j less (omega (arith, j_in)) in absurd (omega (arith, before, same, s_in))
    | inr le ↦ let before = first_before bs j i (omega (arith, le, ne)) (omega (arith, i_in)) in absurd (omega (arith, before, same, t_in))
  ]
]

pub knot_below : (net : Net) (knots : Knotted) → AreKnots net knots → (part k : ℕ) → in_knot knots.numbers part k ≡ true → k < side_count net
knot_below net knots are part k h =
    let lt = ltb-true k (length knots.numbers) (and_parts (nat_lt k (length knots.numbers)) (slice_index knots.numbers k == part) h).0 in
    let count = are.numbered.one_each in
    omega (arith, lt, count)
