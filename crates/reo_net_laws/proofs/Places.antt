-- Comparing by a list of places.
use Rattle.std.proofs.Common.{◌≡◌, ◌⊎◌, inl, inr, ℕ, zero, suc, ◌+◌, ◌<◌, ◌≤◌, List, [], ◌∷◌, ◌++◌, Bool, true, false, cond, length, get_or, refl, ap, sym, ◌∙◌, arith, add-zero, zero-add, append_assoc}
use Rattle.std.proofs.lemmas.Bool.{eq-eqb}
use Rattle.std.specs.Bool.{◌==◌}
use Rattle.std.proofs.lemmas.List.{get_or_default}
use Rattle.std.proofs.lemmas.Bool.Decides.{nat_tests}
use Rattle.std.proofs.lemmas.List.Elements.{filter-append}
use Rattle.std.specs.declared.cmp.Ordering.{Ordering}
use Rattle.std.specs.declared.cmp.Ordering.TheVariants.{Less, Equal, Greater}
use Rattle.std.specs.Ordering.{nat_cmp, ordering_then}
use Rattle.std.specs.Cmp.{nat_cmp_is}
use Rattle.reo_net_base.specs.Net.{Net, Side, all_sides, no_side}
use Rattle.reo_net_base.specs.First.{Position, key_at, is_leading, class_position, leading_positions, class_positions, row_positions, positions, order_by}
use Rattle.reo_net_laws.specs.Keys.{within, AreInRange, ClassesAlwaysLead}

pub equal_numbers : (x y : ℕ) → x ≡ y → nat_cmp x y ≡ Equal
equal_numbers x y e = sym (nat_cmp_is x y Equal e)

pub less_numbers : (x y : ℕ) → x < y → nat_cmp x y ≡ Less
less_numbers x y h = sym (nat_cmp_is x y Less h)

module _ (inside : ℕ → Bool) where
  -- Only the set's sides matter for its places.
  pub key_inside : (ps : List Position) (x y : List ℕ) → ((k : ℕ) → inside k ≡ true → get_or x k 0 ≡ get_or y k 0) → key_at (within inside ps) x ≡ key_at (within inside ps) y
  key_inside [] x y h = refl
  key_inside (p ∷ ps) x y h =
      let rest = key_inside ps x y h in
      elim (inside p.side) as (λ t. inside p.side ≡ t → key_at (cond t (p ∷ within inside ps) (within inside ps)) x ≡ key_at (cond t (p ∷ within inside ps) (within inside ps)) y) [
        | true ↦ λ e i. p.number (h p.side e i) ∷ rest i
        | false ↦ λ e. rest
      ] refl

  -- Lists that agree outside the set are compared by its places.
  pub cmp_within : (ps : List Position) (x y : List ℕ) → ((k : ℕ) → inside k ≡ false → get_or x k 0 ≡ get_or y k 0)
      → order_by ps x y ≡ order_by (within inside ps) x y
  cmp_within [] x y h = refl
  cmp_within (p ∷ ps) x y h =
      let a : ℕ = p.number (get_or x p.side 0) in
      let b : ℕ = p.number (get_or y p.side 0) in
      let rest = cmp_within ps x y h in
      elim (inside p.side) as (λ t. inside p.side ≡ t → ordering_then (nat_cmp a b) (order_by ps x y)
      ≡ order_by (cond t (p ∷ within inside ps) (within inside ps)) x y) [
        | true ↦ λ e. ap (ordering_then (nat_cmp a b)) rest
        | false ↦ λ e. ap (λ (o : Ordering). ordering_then o (order_by ps x y)) (equal_numbers a b (ap p.number (h p.side e))) ∙ rest
      ] refl

pub key-append : (ps qs : List Position) (rows : List ℕ) → key_at (ps ++ qs) rows ≡ key_at ps rows ++ key_at qs rows
key-append [] qs rows = refl
key-append (p ∷ ps) qs rows = ap (λ (xs : List ℕ). p.number (get_or rows p.side 0) ∷ xs) (key-append ps qs rows)

pub key_split : (inside : ℕ → Bool) (ps qs : List Position) (rows : List ℕ) → key_at (within inside (ps ++ qs)) rows ≡ key_at (within inside ps) rows ++ key_at (within inside qs) rows
key_split inside ps qs rows = ap (λ (both : List Position). key_at both rows) (filter-append (λ (p : Position). inside p.side) ps qs) ∙ key-append (within inside ps) (within inside qs) rows

-- Of parts by number.
module _ (part : ℕ → ℕ) where
  abbrev pub same_part : ℕ → ℕ → Bool
  same_part k s = part s == k

  -- What stands before another stands before it in some part.
  pub some_part : (n : ℕ) (ps : List Position) (x y : List ℕ) → AreInRange n ps → order_by ps x y ≡ Less
      → (s : ℕ) × (s < n) × (order_by (within (same_part (part s)) ps) x y ≡ Less)
  some_part n [] x y r h = cc
  some_part n (p ∷ ps) x y r h =
      let a : ℕ = p.number (get_or x p.side 0) in
      let b : ℕ = p.number (get_or y p.side 0) in
      elim (nat_cmp a b) as (λ o. nat_cmp a b ≡ o → ordering_then o (order_by ps x y) ≡ Less
      → (s : ℕ) × (s < n) × (order_by (within (same_part (part s)) (p ∷ ps)) x y ≡ Less)) [
        | Less ↦ λ e g. (
          p.side,
          r.0,
          ap (λ (t : Bool). order_by (cond t (p ∷ within (same_part (part p.side)) ps) (within (same_part (part p.side)) ps)) x y) (eq-eqb (part p.side) (part p.side) refl)
              ∙ ap (λ (o : Ordering). ordering_then o (order_by (within (same_part (part p.side)) ps) x y)) e,
        )
        | Equal ↦ λ e g.
            let later = some_part n ps x y r.1 g in (
              later.0,
              later.1,
              elim (same_part (part later.0) p.side) as (λ t. order_by (cond t (p ∷ within (same_part (part later.0)) ps) (within (same_part (part later.0)) ps)) x y ≡ Less) [
                | true ↦ ap (λ (o : Ordering). ordering_then o (order_by (within (same_part (part later.0)) ps) x y)) e ∙ later.2
                | false ↦ later.2
              ],
            )
        | Greater ↦ λ e g. cc
      ] refl h

-- At no place is x above y.
abbrev pub NotAbove : List Position → List ℕ → List ℕ → Type 0
NotAbove [] x y = Unit {0}
NotAbove (p ∷ ps) x y = (p.number (get_or x p.side 0) ≤ p.number (get_or y p.side 0)) × NotAbove ps x y

-- At some place x is below y.
abbrev pub SomeBelow : List Position → List ℕ → List ℕ → Type 0
SomeBelow [] x y = ⊥
SomeBelow (p ∷ ps) x y = (p.number (get_or x p.side 0) < p.number (get_or y p.side 0)) ⊎ SomeBelow ps x y

at_most : (a b : ℕ) → a ≤ b → (a < b) ⊎ (a ≡ b)
at_most a b h = elim (a == b) as (λ t. (a == b) ≡ t → (a < b) ⊎ (a ≡ b)) [ true ↦ λ e. inr (grind (arith, nat_tests)) | false ↦ λ e. inl (grind (arith, nat_tests)) ] refl

pub less_by : (ps qs : List Position) (x y : List ℕ) → NotAbove ps x y → SomeBelow ps x y → order_by (ps ++ qs) x y ≡ Less
less_by [] qs x y h s = absurd s
less_by (p ∷ ps) qs x y h s =
    let a : ℕ = p.number (get_or x p.side 0) in
    let b : ℕ = p.number (get_or y p.side 0) in
    let rest : Ordering = order_by (ps ++ qs) x y in
    let below : a < b → ordering_then (nat_cmp a b) rest ≡ Less = λ lt. ap (λ (o : Ordering). ordering_then o rest) (less_numbers a b lt) in
    elim s [
      | inl lt ↦ below lt
      | inr later ↦ elim (at_most a b h.0) [
        | inl lt ↦ below lt
        | inr e ↦ ap (λ (o : Ordering). ordering_then o rest) (equal_numbers a b e) ∙ less_by ps qs x y h.1 later
      ]
    ]

-- The classes, from a side on.
pub classes_not_above : (turn : ℕ) (ss : List Side) (k : ℕ) (x y : List ℕ) → ((j : ℕ) (e : Side) → j < length ss → (get_or ss j e).of.class (get_or ss j e).number (get_or x (k + j) 0) turn ≤ (get_or ss j e).of.class (get_or ss j e).number (get_or y (k + j) 0) turn)
    → NotAbove (class_positions turn ss k) x y
classes_not_above turn [] k x y h = tt
classes_not_above turn (s ∷ ss) k x y h = (
  rw add-zero at (h zero s (omega arith)),
  classes_not_above turn ss (suc k) x y (λ j e lt.
      let shift : k + suc j ≡ suc k + j = omega arith in
      rw shift at (h (suc j) e (omega arith))),
)

pub classes_some_below : (turn : ℕ) (ss : List Side) (k : ℕ) (x y : List ℕ) (j : ℕ) (e : Side) → j < length ss → (get_or ss j e).of.class (get_or ss j e).number (get_or x (k + j) 0) turn < (get_or ss j e).of.class (get_or ss j e).number (get_or y (k + j) 0) turn
    → SomeBelow (class_positions turn ss k) x y
classes_some_below turn [] k x y j e lt h = absurd (omega arith)
classes_some_below turn (s ∷ ss) k x y zero e lt h = inl (rw add-zero at h)
classes_some_below turn (s ∷ ss) k x y (suc j) e lt h =
    let shift : k + suc j ≡ suc k + j = omega arith in
    inr (classes_some_below turn ss (suc k) x y j e (omega arith) (rw shift at h))

in_range-append : (n : ℕ) (ps qs : List Position) → AreInRange n ps → AreInRange n qs → AreInRange n (ps ++ qs)
in_range-append n [] qs h g = g
in_range-append n (p ∷ ps) qs h g = (h.0, in_range-append n ps qs h.1 g)

classes_in_range : (turn n : ℕ) (ss : List Side) (k : ℕ) → k + length ss ≤ n → AreInRange n (class_positions turn ss k)
classes_in_range turn n [] k h = tt
classes_in_range turn n (s ∷ ss) k h = (omega arith, classes_in_range turn n ss (suc k) (omega arith))

rows_in_range : (n : ℕ) (ss : List Side) (k : ℕ) → k + length ss ≤ n → AreInRange n (row_positions ss k)
rows_in_range n [] k h = tt
rows_in_range n (s ∷ ss) k h = (omega arith, rows_in_range n ss (suc k) (omega arith))

not_above-append : (ps qs : List Position) (x y : List ℕ) → NotAbove ps x y → NotAbove qs x y → NotAbove (ps ++ qs) x y
not_above-append [] qs x y h g = g
not_above-append (p ∷ ps) qs x y h g = (h.0, not_above-append ps qs x y h.1 g)

some_below-append : (ps qs : List Position) (x y : List ℕ) → SomeBelow qs x y → SomeBelow (ps ++ qs) x y
some_below-append [] qs x y g = g
some_below-append (p ∷ ps) qs x y g = inr (some_below-append ps qs x y g)

-- The classes of those sides that lead, from a side on.
leading_in_range : (turn n : ℕ) (ss : List Side) (k : ℕ) → k + length ss ≤ n → AreInRange n (leading_positions turn ss k)
leading_in_range turn n [] k h = tt
leading_in_range turn n (s ∷ ss) k h =
    let later : List Position = leading_positions turn ss (suc k) in
    let rest : AreInRange n later = leading_in_range turn n ss (suc k) (omega arith) in
    elim (is_leading s) as (λ t. AreInRange n (cond t (class_position turn s k ∷ later) later)) [ true ↦ (omega arith, rest) | false ↦ rest ]

leading_not_above : (turn : ℕ) (ss : List Side) (k : ℕ) (x y : List ℕ) → ((j : ℕ) (e : Side) → j < length ss → (get_or ss j e).of.class (get_or ss j e).number (get_or x (k + j) 0) turn ≤ (get_or ss j e).of.class (get_or ss j e).number (get_or y (k + j) 0) turn)
    → NotAbove (leading_positions turn ss k) x y
leading_not_above turn [] k x y h = tt
leading_not_above turn (s ∷ ss) k x y h =
    let later : List Position = leading_positions turn ss (suc k) in
    let rest : NotAbove later x y = leading_not_above turn ss (suc k) x y (λ j e lt.
    let shift : k + suc j ≡ suc k + j = omega arith in
    rw shift at (h (suc j) e (omega arith))) in
    elim (is_leading s) as (λ t. NotAbove (cond t (class_position turn s k ∷ later) later) x y) [ true ↦ (rw add-zero at (h zero s (omega arith)), rest) | false ↦ rest ]

pub positions_in_range : (net : Net) (turn : ℕ) → AreInRange (length (all_sides net.primitives)) (positions net turn)
positions_in_range net turn =
    let ss : List Side = all_sides net.primitives in
    let n : ℕ = length ss in
    in_range-append n (leading_positions turn ss 0) (class_positions turn ss 0 ++ row_positions ss 0) (leading_in_range turn n ss 0 (omega arith))
    (in_range-append n (class_positions turn ss 0) (row_positions ss 0) (classes_in_range turn n ss 0 (omega arith)) (rows_in_range n ss 0 (omega arith)))

-- Whichever sides lead, the classes decide.
pub classes_lead : ClassesAlwaysLead
classes_lead net turn =
    let ss : List Side = all_sides net.primitives in
    let front : List Position = leading_positions turn ss 0 in
    record {
      in_range = positions_in_range net turn;
      decided = λ x y each k lt less.
          let each_side : (j : ℕ) (e : Side) → j < length ss → (get_or ss j e).of.class (get_or ss j e).number (get_or x (0 + j) 0) turn ≤ (get_or ss j e).of.class (get_or ss j e).number (get_or y (0 + j) 0) turn =
          λ j e j_lt. rw (get_or_default ss j e no_side j_lt, zero-add) (each j j_lt) in
          rw (sym (append_assoc front (class_positions turn ss 0) (row_positions ss 0)))
          (less_by (front ++ class_positions turn ss 0) (row_positions ss 0) x y
          (not_above-append front (class_positions turn ss 0) x y (leading_not_above turn ss 0 x y each_side) (classes_not_above turn ss 0 x y each_side))
          (some_below-append front (class_positions turn ss 0) x y (classes_some_below turn ss 0 x y k no_side lt (rw zero-add less))));
    }

-- One list of places and then another.
then_assoc : (o p q : Ordering) → ordering_then o (ordering_then p q) ≡ ordering_then (ordering_then o p) q
then_assoc Less p q = refl
then_assoc Equal p q = refl
then_assoc Greater p q = refl

pub order-append : (ps qs : List Position) (x y : List ℕ) → order_by (ps ++ qs) x y ≡ ordering_then (order_by ps x y) (order_by qs x y)
order-append [] qs x y = refl
order-append (p ∷ ps) qs x y =
    let first : Ordering = nat_cmp (p.number (get_or x p.side 0)) (p.number (get_or y p.side 0)) in
    ap (ordering_then first) (order-append ps qs x y) ∙ then_assoc first (order_by ps x y) (order_by qs x y)
