-- A circuit of which no joint is wide has item lists.
use Rattle.std.proofs.Common.{◌≡◌, ◌⊎◌, inl, inr, ℕ, zero, suc, ◌+◌, ◌*◌, ◌-◌, ◌<◌, ◌≤◌, List, [], ◌∷◌, ◌++◌, length, set, refl, sym, ◌∙◌, subst, arith}
use Rattle.std.specs.Prelude.{Contains, replicate}
use Rattle.std.proofs.lemmas.Bool.{cases_eq, cases_lt}
use Rattle.std.proofs.lemmas.List.{append-nil}
use Rattle.reo_values.specs.declared.value.Value.{Value}
use Rattle.reo_net_base.specs.Net.{Net}
use Rattle.reo_net_base.specs.Wired.{IsWired}
use Rattle.reo_net_laws.proofs.Search.{Decided}
use Rattle.reo_refute_base.specs.Items.{Lists, items_at, offered_at, IsAdded, IsVisited, AreVisited, ArePassed, AreItemLists}
use Rattle.reo_refute_base.specs.Items.IsAdded.{none, known, fresh}
use Rattle.reo_refute_base.specs.Items.AreVisited.{begun, next}
use Rattle.reo_refute_base.specs.Items.ArePassed.{pass}
use Rattle.reo_refute_base.specs.Wide.{IsWide}
use Rattle.reo_refute_base.proofs.laws.Growing.{first_in}
use Rattle.reo_refute_base.proofs.laws.Listing.{added_begins}
use Rattle.reo_refute_base.proofs.laws.Told.{items_told}
use Rattle.reo_refute_parts.specs.lists.Visits.{AreGood, IsNew, total}
use Rattle.reo_refute_parts.proofs.lists.PassLemmas.{begun_passed, begun_good, fewer_missing, whole}
use Rattle.reo_refute_parts.proofs.lists.VisitLemmas.{many_found, nothing_comes, items_come}

-- Whether an item is in a list can be told.
contains_told : (items : List Value) (x : Value) → Decided (Contains items x)
contains_told items x = elim (first_in items (λ y. y ≡ x) (λ y. y ≡ x → ⊥) (λ y has. items_told y x)) [
  | inl found ↦ inl (subst (Contains items) found.2 found.1)
  | inr other ↦ inr (λ has. other x has refl)
]

-- What comes in a row can be added.
added : (items offered : List Value) → (new : List Value) × IsAdded items offered new
added items [] = (items, none items)
added items (x ∷ rest) = elim (contains_told items x) [
  | inl has ↦ let r = added items rest in (r.0, known items rest r.0 x has r.1)
  | inr not ↦ let r = added (items ++ (x ∷ [])) rest in (r.0, fresh items rest r.0 x not r.1)
]

-- The lists are the same, or have more items than before.
abbrev Came : Lists → Lists → Type 0
Came old new = (new ≡ old) ⊎ (total old < total new)

came_on : (a b c : Lists) → Came a b → Came b c → Came a c
came_on a b c (inl p) (inl q) = inl (q ∙ p)
came_on a b c (inl p) (inr more) = inr (subst (λ (l : Lists). total l < total c) p more)
came_on a b c (inr more) (inl q) = inr (subst (λ (l : Lists). total a < total l) (sym q) more)
came_on a b c (inr more) (inr most) = inr (omega (arith, more, most))

module _ (net : Net) (wired : IsWired net) (narrow : IsWide net → ⊥) where
  -- What is new at a joint.
  new_at : (lists : Lists) → AreGood net lists → (j : ℕ) → j < length net.joints → (new : List Value) × IsNew net lists j new
  new_at lists good j lt =
      let old : List Value = items_at lists j in
      let offered : List Value = offered_at net lists j in
      let r = added old offered in
      let b = added_begins old offered r.0 r.1 in
      let is : IsAdded old offered (old ++ b.0) = subst (IsAdded old offered) b.1 r.1 in
      let noted : IsAdded (old ++ []) offered (old ++ b.0) = subst (λ (l : List Value). IsAdded l offered (old ++ b.0)) (sym (append-nil old)) is in
      elim (cases_lt 256 (length old + length b.0)) [
        | inl many ↦ absurd (narrow (j, lt, many_found net lists good j lt _ b.0 (omega arith) noted many))
        | inr few ↦ (b.0, record { added = is; few = few })
      ]

  -- A visit of a joint.
  visit : (lists : Lists) → AreGood net lists → (j : ℕ) → j < length net.joints → (new : Lists) × IsVisited net j lists new × AreGood net new × Came lists new
  visit lists good j lt =
      let n = new_at lists good j lt in
      let items : List Value = items_at lists j ++ n.0 in
      elim (cases_eq (length n.0) 0) [
        | inl nil ↦ let c = nothing_comes net lists good j lt n.0 n.1 items refl nil in (set lists j items, c.0, c.1, inl c.2)
        | inr some ↦ let c = items_come net lists good j lt n.0 n.1 items refl (omega (arith, some)) in (set lists j items, c.0, c.1, inr c.2)
      ]

  -- Visits of the first joints.
  visits : (n : ℕ) → n ≤ length net.joints → (a : Lists) → AreGood net a → (b : Lists) × AreVisited net n a b × AreGood net b × Came a b
  visits zero le a good = (a, begun a, good, inl refl)
  visits (suc n) le a good =
      let v = visits n (omega (arith, le)) a good in
      let w = visit v.0 v.2 n (omega (arith, le)) in
      (w.0, next n a v.0 w.0 v.1 w.1, w.2, came_on a v.0 w.0 v.3 w.3)

  -- Lists from which a pass goes on to others that have more items.
  record GoesOn (a : Lists) : Type 0 where
    lists : Lists
    passed : ArePassed net lists
    good : AreGood net lists
    more : total a < total lists

  passes : (a : Lists) → ArePassed net a → AreGood net a → ((lists : Lists) × AreItemLists net lists) ⊎ GoesOn a
  passes a passed good =
      let v = visits (length net.joints) (omega arith) a good in
      elim v.3 [
        | inl same ↦ inl (v.0, (whole net wired a v.0 passed v.1 v.2 same).0)
        | inr more ↦ inr (record { lists = v.0; passed = pass a v.0 passed v.1; good = v.2; more = more })
      ]

  -- With so many items missing at most.
  lists_from : (left : ℕ) (a : Lists) → ArePassed net a → AreGood net a → 256 * length net.joints - total a ≤ left → (lists : Lists) × AreItemLists net lists
  lists_from zero a passed good le = elim (passes a passed good) [
    | inl found ↦ found
    | inr on ↦ let fewer = fewer_missing net a on.lists on.good on.more in absurd (omega (arith, fewer, le))
  ]
  lists_from (suc left) a passed good le = elim (passes a passed good) [
    | inl found ↦ found
    | inr on ↦ let fewer = fewer_missing net a on.lists on.good on.more in lists_from left on.lists on.passed on.good (omega (arith, fewer, le))
  ]

  pub item_lists : (lists : Lists) × AreItemLists net lists
  item_lists =
      let none : Lists = replicate (length net.joints) [] in
      lists_from (256 * length net.joints - total none) none (begun_passed net none refl) (begun_good net none refl) (omega arith)
