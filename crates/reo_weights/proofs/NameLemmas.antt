-- Numbers for the items that can stand at the joints of a circuit.
use Rattle.std.proofs.Common.{◌≡◌, ◌⊎◌, inl, inr, ◌↔◌, ℕ, zero, suc, ◌<◌, ◌≤◌, List, [], ◌∷◌, Bool, true, false, Option, Some, None, length, get_or, ap, sym, ◌∙◌, arith}
use Rattle.std.specs.Prelude.{Contains}
use Rattle.std.specs.Option.{is_some}
use Rattle.std.proofs.lemmas.Bool.{cases_lt}
use Rattle.reo_values.specs.declared.value.Value.{Value}
use Rattle.reo_net_base.specs.Net.{Net}
use Rattle.reo_net_base.specs.Wired.{IsWired, IsOrder}
use Rattle.reo_joint_values.specs.Standing.{CanStand}
use Rattle.reo_joint_values.specs.Many.{HasMany, IsJointIn}
use Rattle.reo_joint_values.specs.Values.{Names}
use Rattle.reo_weights.specs.Widths.{IsWide}
use Rattle.reo_weights.specs.Weights.{AreNamed}
use Rattle.reo_weights.proofs.Decisions.{IsDecided, both_decided, same_decided, some_decided}
use Rattle.reo_weights.proofs.ListLemmas.{AreOnce, fewer}
use Rattle.reo_weights.proofs.MoveLemmas.{joint_cases}
use Rattle.reo_weights.proofs.StandLists.{stand_list}

-- The item at a place of a list.
abbrev pub item_at : List Value → ℕ → Option Value
item_at [] n = None
item_at (x ∷ xs) zero = Some x
item_at (x ∷ xs) (suc n) = item_at xs n

-- There is one where the place is in the list.
item_is : (xs : List Value) (n : ℕ) (x : Value) → item_at xs n ≡ Some x → (n < length xs) × (get_or xs n x ≡ x)
item_is [] n x e = let wrong : None ≡ Some x = e in absurd cc
item_is (y ∷ ys) zero x e = let same : Some y ≡ Some x = e in (omega arith, cc)
item_is (y ∷ ys) (suc n) x e = let it = item_is ys n x e in (omega (arith, it.0), it.1)

item_there : (xs : List Value) (n : ℕ) (x : Value) → n < length xs → get_or xs n x ≡ x → item_at xs n ≡ Some x
item_there [] n x lt e = absurd (omega arith)
item_there (y ∷ ys) zero x lt e = ap Some e
item_there (y ∷ ys) (suc n) x lt e = item_there ys n x (omega arith) e

-- A number with an item is below the length.
pub named_below : (xs : List Value) (n : ℕ) → is_some (item_at xs n) ≡ true → n < length xs
named_below [] n e = let wrong : false ≡ true = e in absurd cc
named_below (y ∷ ys) zero e = omega arith
named_below (y ∷ ys) (suc n) e = omega (arith, named_below ys n e)

module _ (net : Net) (wired : IsWired net) (order : List ℕ) (is : IsOrder net order) where
  list_by : (j : ℕ) → (j < length net.joints) ⊎ (length net.joints ≤ j) → List Value
  list_by j (inl lt) = (stand_list net wired order is j lt).0.list
  list_by j (inr past) = []

  -- The items that can stand at a joint.
  pub items_there : ℕ → List Value
  items_there j = list_by j (cases_lt j (length net.joints))

  list_exact : (j : ℕ) (at : (j < length net.joints) ⊎ (length net.joints ≤ j)) → j < length net.joints → (x : Value) → Contains (list_by j at) x ↔ CanStand net j x
  unfolding list_by
  list_exact j (inl lt) j_in x = (stand_list net wired order is j lt).0.exact x
  list_exact j (inr past) j_in x = absurd (omega (arith, past, j_in))

  list_once : (j : ℕ) (at : (j < length net.joints) ⊎ (length net.joints ≤ j)) → AreOnce (list_by j at)
  unfolding list_by
  list_once j (inl lt) = (stand_list net wired order is j lt).1
  list_once j (inr past) = λ m n d lt n_in. absurd (omega arith)

  -- They are exactly these, none twice.
  pub items_exact : (j : ℕ) → j < length net.joints → (x : Value) → Contains (items_there j) x ↔ CanStand net j x
  unfolding items_there
  items_exact j = list_exact j (cases_lt j (length net.joints))

  pub items_once : (j : ℕ) → AreOnce (items_there j)
  unfolding items_there
  items_once j = list_once j (cases_lt j (length net.joints))

  -- The item of a number at a joint: the one at that place.
  abbrev pub item_names : Names
  item_names j n = item_at (items_there j) n

  same_place : (j m n : ℕ) (x : Value) → item_names j m ≡ Some x → item_names j n ≡ Some x → m < n → ⊥
  same_place j m n x first second lt =
      let a = item_is (items_there j) m x first in
      let b = item_is (items_there j) n x second in
      items_once j m n x lt b.0 (a.1 ∙ sym b.1)

  -- These are such numbers.
  pub names_are : (inside : ℕ → Bool) → AreNamed net inside item_names
  names_are inside = record {
    sound = λ j n x at e. let it = item_is (items_there j) n x e in (items_exact j at.0 x).0 (n, it.0, it.1);
    whole = λ j x at stands. let it = (items_exact j at.0 x).1 stands in (it.0, item_there (items_there j) it.0 x it.1 it.2);
    once = λ j m n x at first second. elim (cases_lt m n) [
      | inl lt ↦ absurd (same_place j m n x first second lt)
      | inr le ↦ elim (cases_lt n m) [
        | inl lt ↦ absurd (same_place j n m x second first lt)
        | inr ge ↦ omega (arith, le, ge)
      ]
    ];
  }

  many_decided : (j : ℕ) → j < length net.joints → IsDecided (HasMany net j)
  many_decided j lt = elim (cases_lt 256 (length (items_there j))) [
    | inl many ↦ inl (record { items = items_there j; distinct = items_once j; many = many; stand = λ x h. (items_exact j lt x).0 h })
    | inr few ↦ inr (λ has. let le = fewer has.items (items_there j) (λ x. x) has.distinct (λ x y x_in y_in e. e) (λ x h. (items_exact j lt x).1 (has.stand x h)) in omega (arith, le, few, has.many))
  ]

  -- Whether more than 256 items can stand at some joint of a set is decided.
  pub wide_decided : (inside : ℕ → Bool) → IsDecided (IsWide net inside)
  wide_decided inside =
      same_decided (λ h. record { joint = h.0; is_joint = h.2.0; many = h.2.1 }) (λ w. (w.joint, w.is_joint.0, (w.is_joint, w.many)))
      (some_decided (λ (j : ℕ). IsJointIn net inside j × HasMany net j) (length net.joints) (λ j lt. both_decided (joint_cases net inside j) (many_decided j lt)))
