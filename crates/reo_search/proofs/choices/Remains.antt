-- What is left at loop joints, out of all values.
use Rattle.std.proofs.Common.{◌≡◌, ◌≢◌, inl, inr, ℕ, zero, suc, ◌+◌, ◌<◌, Bool, true, false, cond, List, [], ◌∷◌, ◌++◌, length, get_or, refl, ap, sym, ◌∙◌, subst, arith, add-one, append-nil, length-append}
use Rattle.std.specs.Prelude.{map, Contains, is_some, slice_get}
use Rattle.std.specs.List.{filter, range_with_len}
use Rattle.std.specs.List.Sorted.{IsStrictlyIncreasing}
use Rattle.std.proofs.Math.Seq.{get_or-append_seam}
use Rattle.std.proofs.lemmas.Bool.{cases_eq}
use Rattle.std.proofs.lemmas.List.{get_or_append_left, get_or_default, get_or-map, length-map}
use Rattle.std.proofs.lemmas.List.Elements.{filter-append}
use Rattle.std.proofs.lemmas.List.Kept.{AllPairs-from_increasing}
use Rattle.reo_values.specs.declared.value.Value.{Value}
use Rattle.reo_values.proofs.Naturals.{range_more}
use Rattle.reo_net_base.specs.Net.{Net}
use Rattle.reo_net_laws.specs.Knots.{IsLoop, AreThose}
use Rattle.reo_net_laws.proofs.KnotGroups.{picked_those}
use Rattle.reo_joint_values.specs.Many.{IsJointIn}
use Rattle.reo_weights.specs.Weights.{AreNamed, all_values, AreSupported, product_of, capped, IsWeight}
use Rattle.reo_joint_values.specs.declared.value.JointValue.{JointValue}
use Rattle.reo_joint_values.specs.declared.value.JointValue.TheVariants.{Flow, RG, GR, GG, Jam}
use Rattle.reo_joint_values.specs.Values.{Names, Family, giver_side, AtSide}
use Rattle.reo_joint_values.specs.Supported.{IsNarrowed}
use Rattle.reo_support.specs.Sets.{OneAtLoops}
use Rattle.reo_joint_values.proofs.Narrowing.{narrowed_whole, chosen_stays}
use Rattle.reo_side_tables.specs.declared.board.Board.{Board}
use Rattle.reo_rows.specs.RowFlags.{flag}
use Rattle.reo_rows.specs.Sets.{code_of, value_of, family_of, names_of, IsReady}
use Rattle.reo_rows.proofs.Codes.{code_value, value_code, flag_in}
use Rattle.reo_search.specs.choices.Remaining.{AreLoopsIn, AllAreThere, IsLeftOfAll, HasOneAt, AreCodesAt, AreCodes, choices_of, CoverAll}

filter_more : (test : ℕ → Bool) (n : ℕ) → filter test (range_with_len 0 (n + 1)) ≡ filter test (range_with_len 0 n) ++ filter test (n ∷ [])
filter_more test n =
    let last : 0 + n ≡ n = omega arith in
    ap (λ (k : ℕ). filter test (range_with_len 0 k)) (add-one n) ∙ ap (filter test) (range_more 0 n) ∙ ap (λ (k : ℕ). filter test (range_with_len 0 n ++ k ∷ [])) last ∙ filter-append test (range_with_len 0 n) (n ∷ [])

-- A number that passes comes to those before it.
pub picked_yes : (test : ℕ → Bool) (n : ℕ) (codes : List ℕ) → codes ≡ filter test (range_with_len 0 n) → test n ≡ true → codes ++ n ∷ [] ≡ filter test (range_with_len 0 (n + 1))
picked_yes test n codes is h =
    ap (λ (xs : List ℕ). xs ++ n ∷ []) is ∙ ap (λ (t : Bool). filter test (range_with_len 0 n) ++ cond t (n ∷ []) []) (sym h) ∙ sym (filter_more test n)

-- Another does not.
pub picked_no : (test : ℕ → Bool) (n : ℕ) (codes : List ℕ) → codes ≡ filter test (range_with_len 0 n) → test n ≡ false → codes ≡ filter test (range_with_len 0 (n + 1))
picked_no test n codes is h =
    is ∙ sym (append-nil (filter test (range_with_len 0 n))) ∙ ap (λ (t : Bool). filter test (range_with_len 0 n) ++ cond t (n ∷ []) []) (sym h) ∙ sym (filter_more test n)

-- All that are set were picked.
pub codes_end : (alive : List (List Bool)) (j n : ℕ) → n ≡ length (get_or alive j []) → AreCodesAt alive j (filter (λ (c : ℕ). flag alive j c) (range_with_len 0 n))
codes_end alive j n is =
    picked_those (λ (c : ℕ). flag alive j c ≡ true) (λ (c : ℕ). flag alive j c) n (λ c. (λ h. h.1, λ h. (let there = flag_in alive j c h in omega (arith, there, is), h)))

-- One joint more.
pub codes_more : (alive : List (List Bool)) (joints : List ℕ) (n : ℕ) (left : List (List ℕ)) (codes : List ℕ) → AreCodes alive joints n left → AreCodesAt alive (get_or joints n 0) codes → AreCodes alive joints (n + 1) (left ++ codes ∷ [])
codes_more alive joints n left codes before here = record {
  one_each = let long = length-append left (codes ∷ []) in omega (arith, long, before.one_each);
  each = λ m lt. elim (cases_eq m n) [
    | inl last ↦
        let at : get_or (left ++ codes ∷ []) m [] ≡ codes = ap (λ (k : ℕ). get_or (left ++ codes ∷ []) k []) (last ∙ sym before.one_each) ∙ get_or-append_seam left codes [] [] in
        subst (AreCodesAt alive (get_or joints m 0)) (sym at) (subst (λ (k : ℕ). AreCodesAt alive (get_or joints k 0) codes) (sym last) here)
    | inr other ↦
        let m_lt : m < n = omega (arith, other, lt) in
        subst (AreCodesAt alive (get_or joints m 0)) (sym (get_or_append_left left (codes ∷ []) [] m (omega (arith, m_lt, before.one_each)))) (before.each m m_lt)
  ];
}

some_at : {A : Type 0} → (xs : List A) (n : ℕ) → n < length xs → is_some (slice_get xs n) ≡ true
some_at [] n lt = absurd (omega arith)
some_at (x ∷ xs) zero lt = refl
some_at (x ∷ xs) (suc n) lt = some_at xs n (omega arith)

at_some : {A : Type 0} → (xs : List A) (n : ℕ) → is_some (slice_get xs n) ≡ true → n < length xs
at_some [] n h = cc
at_some (x ∷ xs) zero h = omega arith
at_some (x ∷ xs) (suc n) h = let lt = at_some xs n h in omega (arith, lt)

-- The values with a place are all values.
pub value_there : (items : List (List Value)) (j : ℕ) (v : JointValue) → code_of v < length (get_or items j []) + 4 → all_values (names_of items) j v ≡ true
value_there items j (Flow n) lt = some_at (get_or items j []) n (omega arith)
value_there items j RG lt = refl
value_there items j GR lt = refl
value_there items j GG lt = refl
value_there items j Jam lt = refl

-- And back.
pub there_value : (items : List (List Value)) (j : ℕ) (v : JointValue) → all_values (names_of items) j v ≡ true → code_of v < length (get_or items j []) + 4
there_value items j (Flow n) h = let lt = at_some (get_or items j []) n h in omega (arith, lt)
there_value items j RG h = omega arith
there_value items j GR h = omega arith
there_value items j GG h = omega arith
there_value items j Jam h = omega arith

module _ (net : Net) (inside : ℕ → Bool) (boards : List Board) (ends : List (List ℕ)) (items : List (List Value)) (start : List (List Bool)) (ready : IsReady net boards ends items start) (whole : AllAreThere net items inside start) where
  -- The table has all values.
  pub to_start : (j side : ℕ) (v : JointValue) → j < length net.joints → AtSide net j side → inside side ≡ true → all_values (names_of items) j v ≡ true → family_of start j v ≡ true
  to_start j side v lt at is h = whole j side v (record { in_range = lt; here = at }) is (there_value items j v h)

  -- It has no others.
  pub from_start : (j : ℕ) (v : JointValue) → j < length net.joints → family_of start j v ≡ true → all_values (names_of items) j v ≡ true
  from_start j v lt h = let there = flag_in start j (code_of v) h in value_there items j v (omega (arith, there, ready.width j lt))

  -- What is narrowed out of a table with all values is narrowed out of all values.
  pub narrowed_all : (now : Family) → IsNarrowed net (names_of items) inside (family_of start) now → IsNarrowed net (names_of items) inside (all_values (names_of items)) now
  narrowed_all now narrowed = record {
    smaller = λ j s v lt at is h. from_start j v lt (narrowed.smaller j s v lt at is h);
    keeps = λ family within supported. narrowed.keeps family (λ j s v lt at is h. to_start j s v lt at is (within j s v lt at is h)) supported;
  }

module _ (net : Net) (names : Names) (inside : ℕ → Bool) (alive : List (List Bool)) (left_all : IsLeftOfAll net names inside alive) (loops : List ℕ) (are : AreLoopsIn net inside loops) (left : List (List ℕ)) (codes : AreCodes alive loops (length loops) left) where
  -- Each assignment has its values among what is left.
  pub covers : CoverAll net names inside loops left
  covers rows choice a m lt =
      let stays = chosen_stays net names inside (all_values names) (family_of alive) rows choice left_all.narrowed a in
      let j : ℕ = get_or loops m 0 in
      ((codes.each m lt).exact (code_of (choice j))).1 (stays.from (giver_side net j) (are.here m lt) j (are.in_range m lt) (inl refl))

-- The place tells the value.
pub same_code : (v w : JointValue) → code_of v ≡ code_of w → v ≡ w
same_code v w e = sym (value_code v) ∙ ap value_of e ∙ value_code w

-- Where at most one value is left at each loop joint.
pub one_at_loops : (net : Net) (inside : ℕ → Bool) (alive : List (List Bool)) (loops : List ℕ) → AreLoopsIn net inside loops → ((m : ℕ) → m < length loops → HasOneAt alive (get_or loops m 0))
    → OneAtLoops net inside (family_of alive)
one_at_loops net inside alive loops are one j v w lt is loop a b =
    let at = are.whole j lt is loop in
    let j_is : get_or loops at.0 0 ≡ j = get_or_default loops at.0 0 j at.1 ∙ at.2 in
    same_code v w (subst (HasOneAt alive) j_is (one at.0 at.1) (code_of v) (code_of w) a b)

-- A list of values, by their places.
module _ (codes : List ℕ) where
  value_at : (m : ℕ) (d : JointValue) → m < length codes → get_or (map value_of codes) m d ≡ value_of (get_or codes m 0)
  value_at m d lt = get_or-map value_of codes m 0 d lt

  to_code : (v : JointValue) → Contains (map value_of codes) v → Contains codes (code_of v)
  to_code v (m, lt, is) =
      let m_lt : m < length codes = omega (arith, lt, length-map codes value_of) in
      let code : get_or codes m 0 ≡ code_of v = sym (code_value (get_or codes m 0)) ∙ ap code_of (sym (value_at m v m_lt) ∙ is) in
      (m, m_lt, get_or_default codes m (code_of v) 0 m_lt ∙ code)

  from_code : (v : JointValue) → Contains codes (code_of v) → Contains (map value_of codes) v
  from_code v (m, lt, is) = (m, omega (arith, lt, length-map codes value_of), value_at m v lt ∙ ap value_of (get_or_default codes m 0 (code_of v) lt ∙ is) ∙ value_code v)

  once : IsStrictlyIncreasing codes → (m n : ℕ) → m < n → n < length (map value_of codes) → (d : JointValue) → get_or (map value_of codes) m d ≢ get_or (map value_of codes) n d
  once up m n lt n_in d e =
      let n_lt : n < length codes = omega (arith, n_in, length-map codes value_of) in
      let m_lt : m < length codes = omega (arith, n_lt) in
      let same : get_or codes m 0 ≡ get_or codes n 0 =
      sym (code_value (get_or codes m 0)) ∙ ap code_of (sym (value_at m d m_lt) ∙ e ∙ value_at n d n_lt) ∙ code_value (get_or codes n 0) in
      let less : get_or codes m 0 < get_or codes n 0 = AllPairs-from_increasing codes up m n 0 lt n_lt in
      omega (arith, same, less)

map_lengths : (left : List (List ℕ)) → map length (map (λ (codes : List ℕ). map value_of codes) left) ≡ map length left
map_lengths [] = refl
map_lengths (codes ∷ left) = λ i. length-map codes value_of i ∷ map_lengths left i

-- The weight is that of what is left.
pub weight_left : (net : Net) (names : Names) (inside : ℕ → Bool) → AreNamed net inside names → (loops : List ℕ) → AreThose (λ (j : ℕ). IsJointIn net inside j × IsLoop net j) loops → AreLoopsIn net inside loops
    → (alive : List (List Bool)) → IsLeftOfAll net names inside alive → (left : List (List ℕ)) → AreCodes alive loops (length loops) left → IsWeight net inside (capped (choices_of left))
weight_left net names inside named loops those are alive all left codes = record {
  names = names;
  named = named;
  loops = loops;
  are_loops = those;
  values = map (λ (xs : List ℕ). map value_of xs) left;
  one_each = length-map left (λ (xs : List ℕ). map value_of xs) ∙ codes.one_each;
  supported = λ m lt.
      let j : ℕ = get_or loops m 0 in
      let here = codes.each m lt in
      let whole = λ (v : JointValue). narrowed_whole net names inside (all_values names) (family_of alive) all.narrowed all.supported j (giver_side net j) v (are.in_range m lt) (inl refl) (are.here m lt) in
      let at : get_or (map (λ (xs : List ℕ). map value_of xs) left) m [] ≡ map value_of (get_or left m []) = get_or-map (λ (xs : List ℕ). map value_of xs) left m [] [] (omega (arith, lt, codes.one_each)) in
      subst (AreSupported net names inside j) (sym at) (record {
        exact = λ v. (
          λ h. (whole v).0 ((here.exact (code_of v)).0 (to_code (get_or left m []) v h)),
          λ g. from_code (get_or left m []) v ((here.exact (code_of v)).1 ((whole v).1 g)),
        );
        once = once (get_or left m []) here.increasing;
      });
  is = ap (λ (ns : List ℕ). capped (product_of ns)) (sym (map_lengths left));
}
