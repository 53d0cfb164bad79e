-- What is left at joints of lists of values there.
use Rattle.std.proofs.Common.{◌≡◌, inl, inr, ℕ, ◌+◌, ◌<◌, ◌≤◌, Bool, true, false, cond, List, [], ◌∷◌, ◌++◌, length, get_or, drop, Option, refl, ap, sym, ◌∙◌, subst, arith, length-append, below_more}
use Rattle.std.specs.Prelude.{Contains, filter}
use Rattle.std.proofs.Math.Seq.{get_or-append_seam}
use Rattle.std.proofs.lemmas.Bool.{cases_Bool}
use Rattle.std.proofs.lemmas.List.{get_or_append_left, get_or_past}
use Rattle.reo_net_base.specs.Net.{Net}
use Rattle.reo_joint_values.specs.Values.{Names, Choice, giver_side}
use Rattle.reo_weights.proofs.Listings.{in_filter}
use Rattle.reo_rows.specs.RowFlags.{flag}
use Rattle.reo_rows.specs.Sets.{code_of}
use Rattle.reo_walk.specs.declared.place.KeyPlace.{KeyPlace}
use Rattle.reo_search.specs.choices.Remaining.{AreLoopsIn, AreKept, HasEmpty, kept_from, choices_of}
use Rattle.reo_search.specs.choices.Trying.{HasCodes, AreLeftWith, CoverWith, IsOpen}
use Rattle.reo_search.specs.choices.Best.{IsBetter}
use Rattle.reo_search.proofs.choices.Counted.{some_rest, rest_less}
use Rattle.reo_search.proofs.choices.Bettering.{none_at_all}

-- No flag is set past the end of its row.
pub flag_past : (table : List (List Bool)) (i p : ℕ) → length (get_or table i []) ≤ p → flag table i p ≡ false
flag_past table i p le = get_or_past (get_or table i []) p false le

-- Of the first n flags of a joint at most one is set, and whether one is.
pub record OneBelow (alive : List (List Bool)) (j n : ℕ) (some : Bool) : Type 0 where
  pub none : some ≡ false → (c : ℕ) → c < n → flag alive j c ≡ true → ⊥
  pub one : (c d : ℕ) → c < n → d < n → flag alive j c ≡ true → flag alive j d ≡ true → c ≡ d

module _ (alive : List (List Bool)) (j n : ℕ) (some : Bool) (h : OneBelow alive j n some) where
  -- A flag that is not set.
  pub one_skip : flag alive j n ≡ false → OneBelow alive j (n + 1) some
  one_skip off = record {
    none = λ e. below_more (λ c. flag alive j c ≡ true → ⊥) n (h.none e) here;
    one = λ c d c_lt d_lt. below_more (λ k. flag alive j k ≡ true → flag alive j d ≡ true → k ≡ d) n
        (λ k k_lt. below_more (λ l. flag alive j k ≡ true → flag alive j l ≡ true → k ≡ l) n (λ l l_lt. h.one k l k_lt l_lt) (λ a b. absurd (here b)) d d_lt)
        (λ a b. absurd (here a)) c c_lt;
  }
    where
      here : flag alive j n ≡ true → ⊥
      here on = let e : true ≡ false = sym on ∙ off in cc

  -- The first that is set.
  pub one_first : some ≡ false → OneBelow alive j (n + 1) true
  one_first e = record {
    none = λ t. absurd (let w = t in cc);
    one = λ c d c_lt d_lt a b. last c c_lt a ∙ sym (last d d_lt b);
  }
    where
      last : (c : ℕ) → c < n + 1 → flag alive j c ≡ true → c ≡ n
      last = below_more (λ c. flag alive j c ≡ true → c ≡ n) n (λ c lt a. absurd (h.none e c lt a)) (λ a. refl)

-- Before the first.
pub one_begin : (alive : List (List Bool)) (j : ℕ) → OneBelow alive j 0 false
one_begin alive j = record { none = λ e c lt. absurd (omega arith); one = λ c d lt. absurd (omega arith) }

filter_shorter : (test : ℕ → Bool) (xs : List ℕ) → length (filter test xs) ≤ length xs
filter_shorter test [] = omega arith
filter_shorter test (x ∷ xs) = elim (cases_Bool (test x)) [
  | inl on ↦
      let is : filter test (x ∷ xs) ≡ x ∷ filter test xs = ap (λ (t : Bool). cond t (x ∷ filter test xs) (filter test xs)) on in
      let rest = filter_shorter test xs in
      omega (arith, ap length is, rest)
  | inr off ↦
      let is : filter test (x ∷ xs) ≡ filter test xs = ap (λ (t : Bool). cond t (x ∷ filter test xs) (filter test xs)) off in
      let rest = filter_shorter test xs in
      omega (arith, ap length is, rest)
]

-- From no list yet.
pub kept_none : (alive : List (List Bool)) (joints : List ℕ) (left : List (List ℕ)) → AreKept alive joints left 0 []
kept_none alive joints left = record { one_each = refl; each = λ m lt. absurd (omega arith); some = λ m lt. absurd (omega arith) }

-- From one list more.
pub kept_more : (alive : List (List Bool)) (joints : List ℕ) (left : List (List ℕ)) (n : ℕ) (all : List (List ℕ)) (codes : List ℕ) → AreKept alive joints left n all → codes ≡ kept_from alive joints left n → 0 < length codes
    → AreKept alive joints left (n + 1) (all ++ codes ∷ [])
kept_more alive joints left n all codes before is some = record {
  one_each = let long = length-append all (codes ∷ []) in omega (arith, long, before.one_each);
  each = below_more (λ m. get_or (all ++ codes ∷ []) m [] ≡ kept_from alive joints left m) n (λ m lt. was m lt ∙ before.each m lt) (last ∙ is);
  some = below_more (λ m. 0 < length (get_or (all ++ codes ∷ []) m [])) n
      (λ m lt. subst (λ (xs : List ℕ). 0 < length xs) (sym (was m lt)) (before.some m lt))
      (subst (λ (xs : List ℕ). 0 < length xs) (sym last) some);
}
  where
    was : (m : ℕ) → m < n → get_or (all ++ codes ∷ []) m [] ≡ get_or all m []
    was m lt = get_or_append_left all (codes ∷ []) [] m (omega (arith, lt, before.one_each))

    last : get_or (all ++ codes ∷ []) n [] ≡ codes
    last = ap (λ (k : ℕ). get_or (all ++ codes ∷ []) k []) (sym before.one_each) ∙ get_or-append_seam all codes [] []

module _ (net : Net) (names : Names) (inside : ℕ → Bool) (loops codes : List ℕ) (are : AreLoopsIn net inside loops) (alive : List (List Bool)) (with : AreLeftWith net names inside loops codes alive)
    (left : List (List ℕ)) (cover : CoverWith net names inside loops codes left) where
  stays : (rows : ℕ → ℕ) (choice : Choice) → HasCodes net names inside loops codes rows choice → (m : ℕ) → m < length loops → Contains (kept_from alive loops left m) (code_of (choice (get_or loops m 0)))
  stays rows choice h m lt =
      let j : ℕ = get_or loops m 0 in
      (in_filter (λ c. flag alive j c) (get_or left m []) (code_of (choice j))).1 (
        cover rows choice h m lt,
        (with.kept rows choice h).from (giver_side net j) (are.here m lt) j (are.in_range m lt) (inl refl),
      )

  -- Where none stays at a joint, there is no assignment with these values.
  pub none_kept : HasEmpty alive loops left → (turn : ℕ) (places : List KeyPlace) (best : Option (List ℕ)) → IsBetter (HasCodes net names inside loops codes) net turn places best best
  none_kept (m, lt, is) turn places best = inl (refl, none_at_all net turn places (HasCodes net names inside loops codes) none best)
    where
      none : (rows : ℕ → ℕ) (choice : Choice) → HasCodes net names inside loops codes rows choice → ⊥
      none rows choice h = let there = subst (λ (xs : List ℕ). Contains xs (code_of (choice (get_or loops m 0)))) is (stays rows choice h m lt) in omega (arith, there.1)

  module _ (one_each : length left ≡ length loops) (kept : List (List ℕ)) (all : AreKept alive loops left (length loops) kept) where
    shorter : (m : ℕ) → m < length left → length (get_or kept m []) ≤ length (get_or left m [])
    shorter m lt =
        let m_lt : m < length loops = omega (arith, lt, one_each) in
        subst (λ (xs : List ℕ). length xs ≤ length (get_or left m [])) (sym (all.each m m_lt)) (filter_shorter (λ c. flag alive (get_or loops m 0) c) (get_or left m []))

    -- What stays is still open.
    pub open_kept : IsOpen net names inside loops codes left kept
    open_kept = record {
      one_each = all.one_each;
      cover = λ rows choice h m lt. subst (λ (xs : List ℕ). Contains xs (code_of (choice (get_or loops m 0)))) (sym (all.each m lt)) (stays rows choice h m lt);
      fewer = rest_less kept left (length codes) (all.one_each ∙ sym one_each) shorter;
    }

    -- There is a choice of it, so there was one.
    pub some_kept : 1 ≤ choices_of (drop (length codes) left)
    some_kept =
        let few = rest_less kept left (length codes) (all.one_each ∙ sym one_each) shorter in
        let one = some_rest kept (length codes) (λ m lt. all.some m (omega (arith, lt, all.one_each))) in
        omega (arith, few, one)
