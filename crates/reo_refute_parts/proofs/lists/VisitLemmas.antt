-- What a visit of a joint brings.
use Rattle.std.proofs.Common.{◌≡◌, inl, inr, ℕ, zero, suc, ◌+◌, ◌-◌, ◌<◌, ◌≤◌, List, [], ◌++◌, length, set, refl, ap, sym, ◌∙◌, subst, arith, length-append}
use Rattle.std.specs.Prelude.{Contains}
use Rattle.std.specs.List.{flat_map, range_with_len, sum_by}
use Rattle.std.proofs.lemmas.List.{append-nil, nil_from_length, flat_map_more, get_or-set_same, get_or-set_other, length-set, ext_get_or}
use Rattle.std.proofs.lemmas.List.Elements.{Contains-append_left}
use Rattle.std.proofs.lemmas.List.Sums.{sum_by-set}
use Rattle.std.proofs.lemmas.Bool.{cases_eq}
use Rattle.reo_values.specs.declared.value.Value.{Value}
use Rattle.reo_net_base.specs.Net.{Net}
use Rattle.reo_net_laws.proofs.Ranges.{range_plus_one}
use Rattle.reo_joint_values.specs.Standing.{giver_of}
use Rattle.reo_joint_values.specs.Many.{AreDistinct, HasMany}
use Rattle.reo_refute_base.specs.Items.{Lists, items_at, given_by, plain_rows, offered_at, IsAdded, IsVisited}
use Rattle.reo_refute_base.proofs.laws.Standing.{added_from, offered_stand, visit_sound}
use Rattle.reo_refute_parts.specs.lists.Noted.{IsNoted}
use Rattle.reo_refute_parts.specs.declared.lists.visits.Brought.TheVariants.{Nothing, Items}
use Rattle.reo_refute_parts.specs.lists.Visits.{AreGood, IsNew, Comes, total}
use Rattle.reo_refute_parts.proofs.lists.NotedLemmas.{added_distinct}

-- What the first rows offer, more rows offer too.
more_rows : (f : ℕ → List Value) (n k m : ℕ) → n + k ≡ m → (y : Value) → Contains (flat_map f (range_with_len 0 n)) y → Contains (flat_map f (range_with_len 0 m)) y
more_rows f n zero m is y has = let same : n ≡ m = omega (arith, is) in subst (λ (i : ℕ). Contains (flat_map f (range_with_len 0 i)) y) same has
more_rows f n (suc k) m is y has =
    let before = more_rows f n k (n + k) refl y has in
    let one : flat_map f (range_with_len 0 (n + k)) ++ f (n + k) ≡ flat_map f (range_with_len 0 ((n + k) + 1)) = flat_map_more f [] (range_with_len 0 (n + k)) (n + k) ∙ ap (flat_map f) (sym (range_plus_one (n + k))) in
    let last : (n + k) + 1 ≡ m = omega (arith, is) in
    subst (λ (i : ℕ). Contains (flat_map f (range_with_len 0 i)) y) last (subst (λ (l : List Value). Contains l y) one (Contains-append_left (flat_map f (range_with_len 0 (n + k))) (f (n + k)) y before))

module _ (net : Net) (lists : Lists) (good : AreGood net lists) (j : ℕ) (lt : j < length net.joints) where
  abbrev old : List Value
  old = items_at lists j

  start_distinct : AreDistinct (old ++ [])
  start_distinct = subst AreDistinct (sym (append-nil old)) (good.distinct j)

  -- So many items are those of a wide joint.
  pub many_found : (n : ℕ) (new : List Value) → n ≤ plain_rows net (giver_of net j) → IsNoted (items_at lists j) [] (flat_map (given_by net lists j) (range_with_len 0 n)) new
      → 256 < length (items_at lists j) + length new → HasMany net j
  many_found n new le noted many = record {
    items = old ++ new;
    distinct = added_distinct (old ++ []) (flat_map (given_by net lists j) (range_with_len 0 n)) (old ++ new) noted start_distinct;
    many = omega (arith, many, length-append old new);
    stand = λ x has. elim (added_from (old ++ []) (flat_map (given_by net lists j) (range_with_len 0 n)) (old ++ new) noted x has) [
      | inl there ↦ good.sound j x lt (subst (λ (l : List Value). Contains l x) (append-nil old) there)
      | inr offered ↦
          let k : ℕ = (plain_rows net (giver_of net j)) - n in
          offered_stand net lists good.one_each good.sound j lt x (more_rows (given_by net lists j) n k (plain_rows net (giver_of net j)) (omega (arith, le)) x offered)
    ];
  }

  pub new_found : (n : ℕ) (new : List Value) → n ≡ plain_rows net (giver_of net j) → IsNoted (items_at lists j) [] (flat_map (given_by net lists j) (range_with_len 0 n)) new
      → length (items_at lists j) + length new ≤ 256 → IsNew net lists j new
  new_found n new is noted few = record {
    added = subst (λ (l : List Value). IsAdded l (offered_at net lists j) (old ++ new)) (append-nil old) (subst (λ (i : ℕ). IsNoted old [] (flat_map (given_by net lists j) (range_with_len 0 i)) new) is noted);
    few = few;
  }

  module _ (new : List Value) (is : IsNew net lists j new) where
    abbrev after : Lists
    after = set lists j (items_at lists j ++ new)

    in_lists : j < length lists
    in_lists = omega (arith, lt, good.one_each)

    pub visited : IsVisited net j lists (set lists j (items_at lists j ++ new))
    visited = record { items = old ++ new; added = is.added; after = refl }

    here : items_at after j ≡ old ++ new
    here = get_or-set_same lists j (old ++ new) [] in_lists

    distinct_after : (i : ℕ) → AreDistinct (items_at after i)
    distinct_after i = elim (cases_eq i j) [
      | inl same ↦ subst (λ (k : ℕ). AreDistinct (items_at after k)) (sym same) (subst AreDistinct (sym here) (added_distinct old (offered_at net lists j) (old ++ new) is.added (good.distinct j)))
      | inr other ↦ subst AreDistinct (sym (get_or-set_other lists j i (old ++ new) [] other)) (good.distinct i)
    ]

    few_after : (i : ℕ) → length (items_at after i) ≤ 256
    few_after i = elim (cases_eq i j) [
      | inl same ↦ subst (λ (k : ℕ). length (items_at after k) ≤ 256) (sym same) (omega (arith, ap (λ (l : List Value). length l) here, length-append old new, is.few))
      | inr other ↦ omega (arith, ap (λ (l : List Value). length l) (get_or-set_other lists j i (old ++ new) [] other), good.few i)
    ]

    pub good_after : AreGood net (set lists j (items_at lists j ++ new))
    good_after = record {
      one_each = length-set lists j (old ++ new) ∙ good.one_each;
      sound = visit_sound net j lists after good.one_each lt good.sound visited;
      distinct = distinct_after;
      few = few_after;
    }

    pub grown : 0 < length new → total lists < total (set lists j (items_at lists j ++ new))
    grown some =
        let sums : sum_by length after + length old ≡ sum_by length lists + length (old ++ new) = sum_by-set length lists j (old ++ new) [] in_lists in
        omega (arith, sums, length-append old new, some)

    pub unchanged : new ≡ [] → set lists j (items_at lists j ++ new) ≡ lists
    unchanged none = ext_get_or [] after lists (length-set lists j (old ++ new)) (λ i i_in.
        elim (cases_eq i j) [
          | inl same ↦ ap (items_at after) same ∙ here ∙ ap (λ (l : List Value). old ++ l) none ∙ append-nil old ∙ ap (items_at lists) (sym same)
          | inr other ↦ get_or-set_other lists j i (old ++ new) [] other
        ])

-- What a visit brings, by whether something is new.
pub nothing_comes : (net : Net) (lists : Lists) → AreGood net lists → (j : ℕ) → j < length net.joints → (new : List Value) → IsNew net lists j new
    → (items : List Value) → items ≡ items_at lists j ++ new → length new ≡ 0 → Comes net j lists (set lists j items) Nothing
nothing_comes net lists good j lt new is items e none =
    subst (λ (l : List Value). Comes net j lists (set lists j l) Nothing) (sym e)
    (visited net lists good j lt new is, good_after net lists good j lt new is, unchanged net lists good j lt new is (nil_from_length new none))

pub items_come : (net : Net) (lists : Lists) → AreGood net lists → (j : ℕ) → j < length net.joints → (new : List Value) → IsNew net lists j new
    → (items : List Value) → items ≡ items_at lists j ++ new → 0 < length new → Comes net j lists (set lists j items) Items
items_come net lists good j lt new is items e some =
    subst (λ (l : List Value). Comes net j lists (set lists j l) Items) (sym e)
    (visited net lists good j lt new is, good_after net lists good j lt new is, grown net lists good j lt new is some)
