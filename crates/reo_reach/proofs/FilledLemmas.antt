-- Lists that are made joint by joint.
use Rattle.std.proofs.Common.{◌≡◌, ◌≢◌, inl, inr, ℕ, ◌+◌, ◌<◌, ◌≤◌, List, [], true, false, length, get_or, nat_lt, ap, sym, ◌∙◌, subst, arith, below_more, get_or-set_same, get_or-set_other}
use Rattle.std.specs.Prelude.{Contains}
use Rattle.std.proofs.lemmas.Bool.Decides.{nat_tests, eqb_tells}
use Rattle.std.proofs.lemmas.List.{get_or_default, length-set}
use Rattle.reo_values.specs.declared.value.Value.{Value}
use Rattle.reo_net_base.specs.declared.joint.End.{End}
use Rattle.reo_net_base.specs.Net.{Net}
use Rattle.reo_joint_values.specs.Standing.{giver_of, Brings, CanStand}
use Rattle.reo_joint_values.specs.Standing.CanStand.{alone, passed}
use Rattle.reo_joint_values.specs.Many.{AreDistinct}
use Rattle.reo_reach.specs.Supplied.{Supplied, items_at, is_wide, HasPlaces, IsClear, IsReached, AreShort, OthersStay}
use Rattle.reo_reach.specs.Supplied.Leads.{here, on}
use Rattle.reo_joint_values.specs.InOrder.{AreInOrder}
use Rattle.reo_reach.specs.Added.{IsProduced, IsMade, renewed}
use Rattle.reo_reach.specs.Added.IsProduced.{by_state, by_item}

-- A joint whose list has items that can stand there, and all that rows produce, unless there are
-- more than 256.
pub record IsFilled (net : Net) (s : Supplied) (j : ℕ) : Type 0 where
  pub sound : (x : Value) → Contains (items_at s j) x → CanStand net j x
  pub distinct : AreDistinct (items_at s j)
  pub whole : length (items_at s j) ≤ 256 → (row : ℕ) (x : Value) → IsProduced net s (giver_of net j) row x → Contains (items_at s j) x
  pub marked : is_wide s j ≡ nat_lt 256 (length (items_at s j))

-- The joints at the first places of a list are filled.
abbrev pub AreFilled : Net → List ℕ → ℕ → Supplied → Type 0
AreFilled net joints at s = (m : ℕ) → m < at → IsFilled net s (get_or joints m 0)

-- What rows produce hangs on the lists of the joints that bring there.
produced_moved : (net : Net) (s t : Supplied) (giver : End) (row : ℕ) (x : Value) → ((k : ℕ) → Brings net giver row k → items_at t k ≡ items_at s k) → IsProduced net s giver row x → IsProduced net t giver row x
produced_moved net s t giver row x same (by_state gives) = by_state gives
produced_moved net s t giver row x same (by_item k taken gives has) =
    by_item k taken gives (subst (λ (xs : List Value). Contains xs taken) (sym (same k gives.brings)) has)

module _ (net : Net) (joints : List ℕ) (ordered : AreInOrder net joints) where
  -- What brings to a joint of the list is another joint before it.
  brought_at : (m n : ℕ) → m < length joints → m ≤ n → n < length joints → (row k : ℕ) → Brings net (giver_of net (get_or joints m 0)) row k → (i : ℕ) × (i < m) × (get_or joints i 0 ≡ k) × (k ≢ get_or joints n 0)
  brought_at m n lt le n_in row k brings =
      let it = ordered.brought m row k lt brings in
      (it.0, it.1, it.2, λ same. ordered.once it.0 n (omega (arith, it.1)) n_in (it.2 ∙ same))

  module _ (s : Supplied) (places : HasPlaces net s) (at : ℕ) (lt : at < length joints) (items : List Value) where
    abbrev j : ℕ
    j = get_or joints at 0

    abbrev new : Supplied
    new = renewed s (get_or joints at 0) items

    here_items : items_at new j ≡ items
    here_items = get_or-set_same s.items j items [] (omega (arith, places.one_list, ordered.in_range at lt))

    here_wide : is_wide new j ≡ nat_lt 256 (length items)
    here_wide = get_or-set_same s.wide j (nat_lt 256 (length items)) false (omega (arith, places.one_mark, ordered.in_range at lt))

    other_items : (k : ℕ) → k ≢ j → items_at new k ≡ items_at s k
    other_items k apart = get_or-set_other s.items j k items [] apart

    other_wide : (k : ℕ) → k ≢ j → is_wide new k ≡ is_wide s k
    other_wide k apart = get_or-set_other s.wide j k (nat_lt 256 (length items)) false apart

    -- What is produced at a joint of the list, up to this one, is not changed.
    same_produced : (m : ℕ) → m ≤ at → (row : ℕ) (x : Value) → IsProduced net new (giver_of net (get_or joints m 0)) row x → IsProduced net s (giver_of net (get_or joints m 0)) row x
    same_produced m le row x =
        produced_moved net new s (giver_of net (get_or joints m 0)) row x (λ k brings. sym (other_items k (brought_at m at (omega arith) le lt row k brings).3))

    -- What is produced at this joint can stand there.
    sound_here : AreFilled net joints at s → (row : ℕ) (x : Value) → IsProduced net s (giver_of net j) row x → CanStand net j x
    sound_here are row x (by_state gives) = alone j row x (ordered.in_range at lt) gives
    sound_here are row x (by_item k taken gives has) =
        let it = brought_at at at lt (omega arith) lt row k gives.brings in
        passed j row k taken x (ordered.in_range at lt) gives
        (subst (λ (i : ℕ). CanStand net i taken) it.2 ((are it.0 it.1).sound taken (subst (λ (i : ℕ). Contains (items_at s i) taken) (sym it.2) has)))

    filled_before : AreFilled net joints at s → (m : ℕ) → m < at → IsFilled net new (get_or joints m 0)
    filled_before are m m_lt =
        let apart : get_or joints m 0 ≢ j = ordered.once m at m_lt lt in
        let same : items_at new (get_or joints m 0) ≡ items_at s (get_or joints m 0) = other_items (get_or joints m 0) apart in
        let old = are m m_lt in
        record {
          sound = λ x h. old.sound x (subst (λ (xs : List Value). Contains xs x) same h);
          distinct = subst (λ (xs : List Value). AreDistinct xs) (sym same) old.distinct;
          whole = λ few row x made.
              subst (λ (xs : List Value). Contains xs x) (sym same) (old.whole (subst (λ (xs : List Value). length xs ≤ 256) same few) row x (same_produced m (omega arith) row x made));
          marked = other_wide (get_or joints m 0) apart ∙ old.marked ∙ ap (λ (xs : List Value). nat_lt 256 (length xs)) (sym same);
        }

    filled_here : AreFilled net joints at s → IsMade net s j items → IsFilled net new j
    filled_here are made = record {
      sound = λ x h. let it = made.sound x (subst (λ (xs : List Value). Contains xs x) here_items h) in sound_here are it.0 x it.1;
      distinct = subst (λ (xs : List Value). AreDistinct xs) (sym here_items) made.distinct;
      whole = λ few row x produced.
          subst (λ (xs : List Value). Contains xs x) (sym here_items) (made.whole (subst (λ (xs : List Value). length xs ≤ 256) here_items few) row x (same_produced at (omega arith) row x produced));
      marked = here_wide ∙ ap (λ (xs : List Value). nat_lt 256 (length xs)) (sym here_items);
    }

    -- One joint more is filled.
    pub more_filled : AreFilled net joints at s → IsMade net s (get_or joints at 0) items → AreFilled net joints (at + 1) (renewed s (get_or joints at 0) items)
    more_filled are made = below_more (λ (m : ℕ). IsFilled net new (get_or joints m 0)) at (filled_before are) (filled_here are made)

    pub more_places : HasPlaces net (renewed s (get_or joints at 0) items)
    more_places = record {
      one_list = length-set s.items (get_or joints at 0) items ∙ places.one_list;
      one_mark = length-set s.wide (get_or joints at 0) (nat_lt 256 (length items)) ∙ places.one_mark;
    }

    -- A list that is short is put among short ones.
    pub more_short : AreShort s → length items ≤ 257 → AreShort (renewed s (get_or joints at 0) items)
    more_short short le k = elim (eqb_tells k j) [
      | inl same ↦ subst (λ (i : ℕ). length (items_at new i) ≤ 257) (sym same.1) (subst (λ (xs : List Value). length xs ≤ 257) (sym here_items) le)
      | inr apart ↦ subst (λ (xs : List Value). length xs ≤ 257) (sym (other_items k apart.1)) (short k)
    ]

    pub more_others : (old : Supplied) → OthersStay joints old s → OthersStay joints old (renewed s (get_or joints at 0) items)
    more_others old stay = record {
      items = λ k other. other_items k (apart k other) ∙ stay.items k other;
      wide = λ k other. other_wide k (apart k other) ∙ stay.wide k other;
    }
      where
        apart : (k : ℕ) → (Contains joints k → ⊥) → k ≢ get_or joints at 0
        apart k other same = other (at, lt, get_or_default joints at k 0 lt ∙ sym same)

  -- When all joints of the list are filled, each is reached.
  module _ (s : Supplied) (are : AreFilled net joints (length joints) s) where
    filled_of : (j : ℕ) → Contains joints j → IsFilled net s j
    filled_of j has =
        let is : get_or joints has.0 0 ≡ j = get_or_default joints has.0 0 j has.1 ∙ has.2 in
        subst (λ (i : ℕ). IsFilled net s i) is (are has.0 has.1)

    brought_in : (j : ℕ) → Contains joints j → (row k : ℕ) → Brings net (giver_of net j) row k → Contains joints k
    brought_in j has row k brings =
        let is : get_or joints has.0 0 ≡ j = get_or_default joints has.0 0 j has.1 ∙ has.2 in
        let it = ordered.brought has.0 row k has.1 (subst (λ (i : ℕ). Brings net (giver_of net i) row k) (sym is) brings) in
        let lt : it.0 < length joints = omega (arith, it.1, has.1) in
        (it.0, lt, get_or_default joints it.0 k 0 lt ∙ it.2)

    clear_few : (j : ℕ) → Contains joints j → IsClear net s j → length (items_at s j) ≤ 256
    clear_few j has clear =
        let it : nat_lt 256 (length (items_at s j)) ≡ false = sym (filled_of j has).marked ∙ clear j (here j) in
        grind (arith, nat_tests)

    clear_before : (j row k : ℕ) → IsClear net s j → Brings net (giver_of net j) row k → IsClear net s k
    clear_before j row k clear brings i path = clear i (on i k j row path brings)

    clear_whole : (j : ℕ) (x : Value) → Contains joints j → IsClear net s j → CanStand net j x → Contains (items_at s j) x
    clear_whole j x has clear (alone i row y i_in gives) = (filled_of i has).whole (clear_few i has clear) row y (by_state gives)
    clear_whole j x has clear (passed i row k taken y i_in gives before) =
        (filled_of i has).whole (clear_few i has clear) row y
        (by_item k taken gives (clear_whole k taken (brought_in i has row k gives.brings) (clear_before i row k clear gives.brings) before))

    pub reached : (j : ℕ) → Contains joints j → IsReached net s j
    reached j has = record {
      sound = (filled_of j has).sound;
      distinct = (filled_of j has).distinct;
      whole = λ clear x stands. clear_whole j x has clear stands;
      many = λ wide. let it : nat_lt 256 (length (items_at s j)) ≡ true = sym (filled_of j has).marked ∙ wide in grind (arith, nat_tests);
      few = clear_few j has;
    }
