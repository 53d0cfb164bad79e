-- A branch, or one supported value at each joint.
use Rattle.std.proofs.Common.{◌≡◌, ◌≢◌, ◌⊎◌, inl, inr, ℕ, zero, suc, ◌+◌, ◌<◌, ◌≤◌, ◌==◌, ◌&&◌, ◌||◌, not, List, [], ◌∷◌, ◌++◌, Bool, true, false, length, get_or, filter, Contains, refl, ap, sym, ◌∙◌, subst, arith}
use Rattle.std.proofs.lemmas.List.{get_or_append_left, get_or_push, length_push}
use Rattle.std.proofs.lemmas.List.Elements.{filter_passes, All-contains}
use Rattle.std.proofs.lemmas.Bool.{cases_eq, cases_Bool, and_parts}
use Rattle.std.proofs.lemmas.Bool.Decides.{nat_tests}
use Rattle.reo_net_base.specs.Net.{Net}
use Rattle.reo_joint_values.specs.declared.value.JointValue.{JointValue}
use Rattle.reo_joint_values.specs.Values.{Family, value_eq, giver_side, taker_side, AtSide}
use Rattle.reo_refute_base.proofs.Narrowing.{value_same, same_value}
use Rattle.reo_refute_base.specs.declared.line.LogLine.{LogLine}
use Rattle.reo_refute_base.specs.declared.line.LogLine.TheVariants.{Drop, Empty, Split}
use Rattle.reo_refute_base.specs.Items.{Lists, numbered}
use Rattle.reo_refute_base.specs.Live.{values_of, all_live, live_at, without, alone, HasSupport}
use Rattle.reo_refute_base.specs.Logs.{MayGo, IsEmpty, live_value, joined, IsBranch}
use Rattle.reo_refute_base.specs.Logs.IsBranch.{drop, empty, split}
use Rattle.reo_refute_base.specs.laws.Singles.{IsPartOf, IsSingle}
use Rattle.reo_refute_base.proofs.laws.Listing.{first_or}

pub first_below : (n : ℕ) (A B : ℕ → Type 0) → ((k : ℕ) → k < n → A k ⊎ B k) → ((k : ℕ) × (k < n) × A k) ⊎ ((k : ℕ) → k < n → B k)
first_below zero A B each = inr (λ k lt. absurd (omega (arith, lt)))
first_below (suc n) A B each =
    elim (first_below n A B (λ k lt. each k (omega (arith, lt)))) [
      | inl found ↦ inl (found.0, omega (arith, found.1), found.2)
      | inr all ↦ elim (each n (omega arith)) [ inl a ↦ inl (n, omega arith, a) | inr b ↦ inr (last all b) ]
    ]
  where
    last : ((k : ℕ) → k < n → B k) → B n → (k : ℕ) → k < suc n → B k
    last all b k lt = elim (cases_eq k n) [ inl same ↦ subst B (sym same) b | inr other ↦ all k (omega (arith, lt, other)) ]

later_has : {X : Type 0} (x : X) (rest : List X) (y : X) → Contains rest y → Contains (x ∷ rest) y
later_has x rest y has = (suc has.0, omega (arith, has.1), has.2)

pub first_in : {X : Type 0} (xs : List X) (A B : X → Type 0) → ((x : X) → Contains xs x → A x ⊎ B x) → ((x : X) × Contains xs x × A x) ⊎ ((x : X) → Contains xs x → B x)
first_in [] A B each = inr (λ x has. absurd (omega (arith, has.1)))
first_in (y ∷ ys) A B each =
    elim (each y (0, omega arith, refl)) [
      | inl a ↦ inl (y, (0, omega arith, refl), a)
      | inr b ↦ elim (first_in ys A B (λ x has. each x (later_has y ys x has))) [
        | inl found ↦ inl (found.0, later_has y ys found.0 found.1, found.2)
        | inr all ↦ inr (λ x has. elim (first_or y ys x has) [ inl same ↦ subst B same b | inr more ↦ all x more ])
      ]
    ]

some_or : {X : Type 0} (xs : List X) → (xs ≡ []) ⊎ ((x : X) × Contains xs x)
some_or [] = inl refl
some_or (x ∷ xs) = inr (x, (0, omega arith, refl))

pub filtered : {X : Type 0} (p : X → Bool) (xs : List X) (x : X) → Contains (filter p xs) x → p x ≡ true
filtered p xs x has = All-contains (λ y. p y ≡ true) (filter p xs) x (filter_passes p xs) has

-- A test that holds less often keeps no more.
pub kept_fewer : {X : Type 0} (p q : X → Bool) (xs : List X) → ((x : X) → p x ≡ true → q x ≡ true) → length (filter p xs) ≤ length (filter q xs)
kept_fewer p q [] sub = omega arith
kept_fewer p q (y ∷ ys) sub =
    let rest = kept_fewer p q ys sub in
    elim (cases_Bool (p y)) [
      | inl holds ↦ rw (holds, sub y holds) (omega (arith, rest))
      | inr off ↦ elim (cases_Bool (q y)) [ inl has ↦ rw (off, has) (omega (arith, rest)) | inr none ↦ rw (off, none) rest ]
    ]

pub kept_less : {X : Type 0} (p q : X → Bool) (xs : List X) → ((x : X) → p x ≡ true → q x ≡ true) → (x : X) → Contains (filter q xs) x → p x ≡ false → length (filter p xs) < length (filter q xs)
kept_less p q [] sub x has off = absurd (omega (arith, has.1))
kept_less p q (y ∷ ys) sub x has off =
    let rest = kept_fewer p q ys sub in
    elim (cases_Bool (q y)) [
      | inl here ↦ elim (first_or y (filter q ys) x (rw here at has)) [
        | inl same ↦ let gone : p y ≡ false = ap p same ∙ off in rw (gone, here) (omega (arith, rest))
        | inr more ↦
            let less = kept_less p q ys sub x more off in
            elim (cases_Bool (p y)) [ inl holds ↦ rw (holds, here) (omega (arith, less)) | inr gone ↦ rw (gone, here) (omega (arith, less)) ]
      ]
      | inr none ↦
          let less = kept_less p q ys sub x (rw none at has) off in
          elim (cases_Bool (p y)) [
            | inl holds ↦ let wrong : true ≡ false = sym (sub y holds) ∙ none in absurd cc
            | inr gone ↦ rw (gone, none) less
          ]
    ]

-- How many values are live at the first n joints.
abbrev pub count_to : Lists → Family → ℕ → ℕ
count_to lists live zero = 0
count_to lists live (suc n) = count_to lists live n + length (live_at lists live n)

count_fewer : (lists : Lists) (now live : Family) → IsPartOf now live → (n : ℕ) → count_to lists now n ≤ count_to lists live n
count_fewer lists now live sub zero = omega arith
count_fewer lists now live sub (suc n) = omega (arith, count_fewer lists now live sub n, kept_fewer (now n) (live n) (values_of lists n) (sub n))

count_less : (lists : Lists) (now live : Family) → IsPartOf now live → (j : ℕ) → length (live_at lists now j) < length (live_at lists live j)
    → (n : ℕ) → j < n → count_to lists now n < count_to lists live n
count_less lists now live sub j less zero lt = absurd (omega (arith, lt))
count_less lists now live sub j less (suc n) lt =
    elim (cases_eq j n) [
      | inl same ↦ let here = subst (λ (k : ℕ). length (live_at lists now k) < length (live_at lists live k)) same less in omega (arith, here, count_fewer lists now live sub n)
      | inr other ↦ omega (arith, count_less lists now live sub j less n (omega (arith, lt, other)), kept_fewer (now n) (live n) (values_of lists n) (sub n))
    ]

pub off_at : (a : Bool) (j : ℕ) (e : Bool) → e ≡ true → a && not ((j == j) && e) ≡ false
off_at a j e h = grind (arith, nat_tests)

pub off_beside : (a : Bool) (j : ℕ) (e : Bool) → e ≡ false → a && (not (j == j) || e) ≡ false
off_beside a j e h = grind (arith, nat_tests)

pieces_from : (n : ℕ) (P : ℕ → List LogLine → Type 0) → ((m : ℕ) → m < n → (lines : List LogLine) × P m lines)
    → (ps : List (List LogLine)) × (length ps ≡ n) × ((m : ℕ) → m < n → P m (get_or ps m []))
pieces_from zero P each = ([], refl, λ m lt. absurd (omega (arith, lt)))
pieces_from (suc n) P each =
    let r = pieces_from n P (λ m lt. each m (omega (arith, lt))) in
    let l = each n (omega arith) in (
      r.0 ++ (l.0 ∷ []),
      length_push r.0 l.0 ∙ omega (arith, r.1),
      λ m lt. elim (cases_eq m n) [
        | inl same ↦ subst (λ (k : ℕ). P k (get_or (r.0 ++ (l.0 ∷ [])) k [])) (sym same) (subst (P n) (sym (get_or_push r.0 l.0 [] n r.1)) l.1)
        | inr other ↦ subst (P m) (sym (get_or_append_left r.0 (l.0 ∷ []) [] m (omega (arith, r.1, lt, other)))) (r.2 m (omega (arith, lt, other)))
      ],
    )

module _ (net : Net) (lists : Lists) (allowed : ℕ → ℕ → Type 0) (told : (live : Family) → IsPartOf live (all_live lists) → (side j : ℕ) (v : JointValue) → j < length net.joints → AtSide net j side → HasSupport net (numbered lists) allowed live side j v ⊎ (HasSupport net (numbered lists) allowed live side j v → ⊥)) where
  abbrev pub Outcome : Family → Type 0
  Outcome live = ((lines : List LogLine) × IsBranch net lists allowed live lines) ⊎ IsSingle net lists allowed live

  record Goes (live : Family) (j : ℕ) : Type 0 where
    value : JointValue
    side : ℕ
    has : Contains (live_at lists live j) value
    may : MayGo net lists allowed live j value side

  AreSupported : Family → ℕ → JointValue → Type 0
  AreSupported live j v = (side : ℕ) → AtSide net j side → HasSupport net (numbered lists) allowed live side j v

  goes : (live : Family) (j : ℕ) (lt : j < length net.joints) (v : JointValue) (side : ℕ) → Contains (live_at lists live j) v → AtSide net j side → (HasSupport net (numbered lists) allowed live side j v → ⊥) → Goes live j
  goes live j lt v side has at none = record { value = v; side = side; has = has; may = record { in_range = lt; is_live = filtered (live j) (values_of lists j) v has; at_side = at; unsupported = none } }

  at_value : (live : Family) → IsPartOf live (all_live lists) → (j : ℕ) → j < length net.joints → (v : JointValue) → Contains (live_at lists live j) v → Goes live j ⊎ AreSupported live j v
  unfolding AreSupported
  at_value live sub j lt v has =
      elim (told live sub (giver_side net j) j v lt (inl refl)) [
        | inr none ↦ inl (goes live j lt v (giver_side net j) has (inl refl) none)
        | inl gives ↦ elim (told live sub (taker_side net j) j v lt (inr refl)) [
          | inr none ↦ inl (goes live j lt v (taker_side net j) has (inr refl) none)
          | inl takes ↦ inr (λ side at. elim at [
            | inl here ↦ subst (λ (s : ℕ). HasSupport net (numbered lists) allowed live s j v) here gives
            | inr here ↦ subst (λ (s : ℕ). HasSupport net (numbered lists) allowed live s j v) here takes
          ])
        ]
      ]

  at_joint : (live : Family) → IsPartOf live (all_live lists) → (j : ℕ) → j < length net.joints → Goes live j ⊎ ((v : JointValue) → Contains (live_at lists live j) v → AreSupported live j v)
  at_joint live sub j lt =
      elim (first_in (live_at lists live j) (λ _. Goes live j) (AreSupported live j) (λ v has. at_value live sub j lt v has)) [
        | inl found ↦ inl found.2
        | inr all ↦ inr all
      ]

  -- Two values of a joint.
  record IsDouble (live : Family) (j : ℕ) : Type 0 where
    first : JointValue
    second : JointValue
    has_first : Contains (live_at lists live j) first
    has_second : Contains (live_at lists live j) second
    differ : value_eq second first ≡ false

  abbrev HasOne : Family → ℕ → Type 0
  HasOne live j = (v : JointValue) × Contains (live_at lists live j) v × ((w : JointValue) → Contains (live_at lists live j) w → w ≡ v)

  double_or : (live : Family) (j : ℕ) (v : JointValue) → Contains (live_at lists live j) v → IsDouble live j ⊎ HasOne live j
  double_or live j v has =
      elim (first_in (live_at lists live j) (λ w. value_eq w v ≡ false) (λ w. w ≡ v) (λ w at. elim (cases_Bool (value_eq w v)) [ inl same ↦ inr (same_value w v same) | inr other ↦ inl other ])) [
        | inl found ↦ inl (record { first = v; second = found.0; has_first = has; has_second = found.1; differ = found.2 })
        | inr all ↦ inr (v, has, all)
      ]

  drop_part : (live : Family) (j : ℕ) (v : JointValue) → IsPartOf (without live j v) live
  drop_part live j v i w h = (and_parts (live i w) (not ((i == j) && value_eq w v)) h).0

  alone_part : (live : Family) (j : ℕ) (v : JointValue) → IsPartOf (alone live j v) live
  alone_part live j v i w h = (and_parts (live i w) (not (i == j) || value_eq w v) h).0

  drop_less : (live : Family) (j : ℕ) → j < length net.joints → (v : JointValue) → Contains (live_at lists live j) v
      → count_to lists (without live j v) (length net.joints) < count_to lists live (length net.joints)
  drop_less live j lt v has =
      count_less lists (without live j v) live (drop_part live j v) j
      (kept_less (without live j v j) (live j) (values_of lists j) (drop_part live j v j) v has (off_at (live j v) j (value_eq v v) (value_same v))) (length net.joints) lt

  alone_less : (live : Family) (j : ℕ) → j < length net.joints → (u x : JointValue) → Contains (live_at lists live j) x → value_eq x u ≡ false
      → count_to lists (alone live j u) (length net.joints) < count_to lists live (length net.joints)
  alone_less live j lt u x has differ =
      count_less lists (alone live j u) live (alone_part live j u) j
      (kept_less (alone live j u j) (live j) (values_of lists j) (alone_part live j u j) x has (off_beside (live j x) j (value_eq x u) differ)) (length net.joints) lt

  held_less : (live : Family) (j : ℕ) → j < length net.joints → IsDouble live j → (u : JointValue) → count_to lists (alone live j u) (length net.joints) < count_to lists live (length net.joints)
  held_less live j lt d u =
      elim (cases_Bool (value_eq d.first u)) [
        | inr other ↦ alone_less live j lt u d.first d.has_first other
        | inl same ↦
            let is : value_eq d.second u ≡ false = ap (value_eq d.second) (sym (same_value d.first u same)) ∙ d.differ in
            alone_less live j lt u d.second d.has_second is
      ]

  single_in : (now live : Family) → IsPartOf now live → IsSingle net lists allowed now → IsSingle net lists allowed live
  single_in now live sub s = record { now = s.now; within = λ j v h. sub j v (s.within j v h); one = s.one; supported = s.supported }

  not_nil : (xs : List JointValue) (v : JointValue) → Contains xs v → xs ≢ []
  not_nil xs v has is = let n : length xs ≡ 0 = ap length is in omega (arith, has.1, n)

  pub grow : (n : ℕ) (live : Family) → IsPartOf live (all_live lists) → count_to lists live (length net.joints) < n → Outcome live
  unfolding AreSupported
  grow zero live sub lt = absurd (omega (arith, lt))
  grow (suc n) live sub lt =
      elim (first_below (length net.joints) (Goes live) (λ j. (v : JointValue) → Contains (live_at lists live j) v → AreSupported live j v) (λ j j_in. at_joint live sub j j_in)) [
        | inl g ↦
            let j : ℕ = g.0 in
            let v : JointValue = g.2.value in
            elim (grow n (without live j v) (λ i w h. sub i w (drop_part live j v i w h)) (omega (arith, lt, drop_less live j g.1 v g.2.has))) [
              | inl b ↦ inl (Drop j v g.2.side ∷ b.0, drop live j v g.2.side b.0 g.2.may b.1)
              | inr s ↦ inr (single_in (without live j v) live (drop_part live j v) s)
            ]
        | inr supported ↦ elim (first_below (length net.joints) (IsEmpty net lists live) (λ j. (v : JointValue) × Contains (live_at lists live j) v) (λ j j_in. elim (some_or (live_at lists live j)) [ inl none ↦ inl (record { in_range = j_in; none = none }) | inr some ↦ inr some ])) [
          | inl e ↦ inl (Empty e.0 ∷ [], empty live e.0 e.2)
          | inr some ↦ elim (first_below (length net.joints) (IsDouble live) (HasOne live) (λ j j_in. double_or live j (some j j_in).0 (some j j_in).1)) [
            | inr one ↦ inr (record { now = live; within = λ j v h. h; one = one; supported = λ j v side j_in has at. supported j j_in v has side at })
            | inl d ↦
                let j : ℕ = d.0 in
                elim (first_below (length (live_at lists live j)) (λ m. IsSingle net lists allowed (alone live j (live_value lists live j m))) (λ m. (lines : List LogLine) × IsBranch net lists allowed (alone live j (live_value lists live j m)) lines)
                (λ m m_lt. elim (grow n (alone live j (live_value lists live j m)) (λ i w h. sub i w (alone_part live j (live_value lists live j m) i w h)) (omega (arith, lt, held_less live j d.1 d.2 (live_value lists live j m)))) [ inl b ↦ inr b | inr s ↦ inl s ])) [
                  | inl s ↦ inr (single_in (alone live j (live_value lists live j s.0)) live (alone_part live j (live_value lists live j s.0)) s.2)
                  | inr all ↦
                      let p = pieces_from (length (live_at lists live j)) (λ m lines. IsBranch net lists allowed (alone live j (live_value lists live j m)) lines) all in
                      inl (Split j ∷ joined p.0, split live j p.0 (record { in_range = d.1; some = not_nil (live_at lists live j) d.2.first d.2.has_first }) p.1 (λ m m_lt. p.2 m (omega (arith, m_lt, p.1))))
                ]
          ]
        ]
      ]
