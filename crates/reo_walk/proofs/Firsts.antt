-- The first assignment by values is the first by rows and items.
use Rattle.std.proofs.Common.{◌≡◌, ◌≢◌, inl, ◌↔◌, ℕ, zero, suc, ◌-◌, ◌<◌, Bool, true, false, cond, Option, List, [], ◌∷◌, ◌++◌, length, get_or, drop, refl, ap, sym, ◌∙◌, subst, arith, append_assoc, length-append}
use Rattle.std.specs.Prelude.{map, filter}
use Rattle.std.specs.declared.cmp.Ordering.TheVariants.{Less}
use Rattle.std.specs.Ordering.{nat_cmp}
use Rattle.std.specs.Cmp.Lexicographic.{slice_cmp}
use Rattle.std.proofs.lemmas.List.{map-append, length-map}
use Rattle.std.proofs.lemmas.List.FromFn.{get_or-map-range_with_len}
use Rattle.reo_values.specs.declared.value.Value.{Value}
use Rattle.reo_net_base.specs.Net.{Net}
use Rattle.reo_net_base.specs.Sides.{side_count}
use Rattle.reo_net_base.specs.First.{key_at, positions, order_by}
use Rattle.reo_net_base.specs.Wired.{IsWired, IsOrder}
use Rattle.reo_net_laws.specs.Parts.{IsClosed}
use Rattle.reo_net_laws.specs.Keys.{within, class_of, leads_at}
use Rattle.reo_net_laws.specs.Sublists.{sides_in, part_rows, part_classes, part_leading, part_key}
use Rattle.reo_net_laws.proofs.Sublists.{part_keys}
use Rattle.reo_net_laws.proofs.Sides.{row_is}
use Rattle.reo_joint_values.specs.declared.value.JointValue.{JointValue}
use Rattle.reo_joint_values.specs.Values.{Names, Choice, Family, items_of, no_joint, joint_of, giver_side, taker_side}
use Rattle.reo_joint_values.specs.Chosen.{IsChosen, rows_of}
use Rattle.reo_joint_values.specs.Ties.{AreSides, HasChoice}
use Rattle.reo_joint_values.proofs.Fitting.{item_chosen}
use Rattle.reo_joint_values.proofs.Assigning.{mark_by, choices_are_assignments}
use Rattle.reo_joint_values.proofs.Choosing.{has_chosen, same_rows}
use Rattle.reo_walk.specs.declared.place.KeyPlace.{KeyPlace}
use Rattle.reo_walk.specs.declared.place.KeyPlace.TheVariants.{Class, Row}
use Rattle.reo_walk.specs.Places.{side_of_place, number_of, numbers, places_in}
use Rattle.reo_walk.specs.Settling.{HasNone, IsFirstWith}
use Rattle.reo_walk.specs.Arranged.{IsOfSet, IsAssignmentOf, HasNoAssignment}

-- The numbers at the places of some sides are what their rows are compared by.
module _ (net : Net) (turn : ℕ) (rows : ℕ → ℕ) where
  abbrev number_at : KeyPlace → ℕ
  number_at p = number_of net turn p (rows (side_of_place p))

  leading_for : (s : ℕ) (ss : List ℕ) (t : Bool) → map number_at (map Class (filter (leads_at net) ss)) ≡ part_leading net turn ss (map rows ss)
      → map number_at (map Class (cond t (s ∷ filter (leads_at net) ss) (filter (leads_at net) ss))) ≡ cond t (class_of net turn s (rows s) ∷ part_leading net turn ss (map rows ss)) (part_leading net turn ss (map rows ss))
  leading_for s ss true rest = ap (λ (xs : List ℕ). class_of net turn s (rows s) ∷ xs) rest
  leading_for s ss false rest = rest

  leading_are : (sides : List ℕ) → map number_at (map Class (filter (leads_at net) sides)) ≡ part_leading net turn sides (map rows sides)
  leading_are [] = refl
  leading_are (s ∷ ss) = leading_for s ss (leads_at net s) (leading_are ss)

  classes_are : (sides : List ℕ) → map number_at (map Class sides) ≡ part_classes net turn sides (map rows sides)
  classes_are [] = refl
  classes_are (s ∷ ss) = ap (λ (xs : List ℕ). class_of net turn s (rows s) ∷ xs) (classes_are ss)

  rows_are : (sides : List ℕ) → map number_at (map Row sides) ≡ map rows sides
  rows_are [] = refl
  rows_are (s ∷ ss) = ap (λ (xs : List ℕ). rows s ∷ xs) (rows_are ss)

  pub numbers_are_key : (sides : List ℕ) → numbers net turn (places_in net sides) rows ≡ part_key net turn sides (map rows sides)
  numbers_are_key sides =
      map-append number_at (map Class (filter (leads_at net) sides)) (map Class sides ++ map Row sides)
      ∙ ap (λ (xs : List ℕ). xs ++ map number_at (map Class sides ++ map Row sides)) (leading_are sides)
      ∙ ap (λ (xs : List ℕ). part_leading net turn sides (map rows sides) ++ xs) (map-append number_at (map Class sides) (map Row sides) ∙ (λ i. classes_are sides i ++ rows_are sides i))

-- What is left of two lists behind the first.
pub drop_first : (xs ys : List ℕ) → drop (length (xs ++ ys) - length ys) (xs ++ ys) ≡ ys
drop_first xs ys =
    let count : length (xs ++ ys) - length ys ≡ length xs = omega (arith, length-append xs ys) in
    ap (λ (n : ℕ). drop n (xs ++ ys)) count ∙ drop_all xs ys
  where
    drop_all : (us bs : List ℕ) → drop (length us) (us ++ bs) ≡ bs
    drop_all [] bs = refl
    drop_all (u ∷ us) bs = drop_all us bs

-- The last numbers of a key are the rows.
pub last_rows : (net : Net) (turn : ℕ) (sides rows : List ℕ) → drop (length (part_key net turn sides rows) - length rows) (part_key net turn sides rows) ≡ rows
last_rows net turn sides rows =
    let lead : List ℕ = part_leading net turn sides rows in
    let classes : List ℕ = part_classes net turn sides rows in
    let whole : lead ++ (classes ++ rows) ≡ (lead ++ classes) ++ rows = sym (append_assoc lead classes rows) in
    subst (λ (xs : List ℕ). drop (length xs - length rows) xs ≡ rows) (sym whole) (drop_first (lead ++ classes) rows)

-- A list of rows has the rows of some sides that there are.

listed_rows : (net : Net) (rows : ℕ → ℕ) (sides : List ℕ) → ((m : ℕ) → m < length sides → get_or sides m 0 < side_count net) → part_rows sides (rows_of net rows) ≡ map rows sides
listed_rows net rows [] below = refl
listed_rows net rows (s ∷ ss) below =
    let here : get_or (rows_of net rows) s 0 ≡ rows s = get_or-map-range_with_len {X = ℕ} rows 0 (side_count net) s s 0 (below zero (omega arith)) (omega arith) in
    let rest = listed_rows net rows ss (λ m lt. below (suc m) (omega arith)) in
    λ i. here i ∷ rest i

-- The key of rows at the places of a set of sides.
pub key_is : (net : Net) (turn : ℕ) (inside : ℕ → Bool) (rows : ℕ → ℕ) → ((m : ℕ) → m < length (sides_in net inside) → get_or (sides_in net inside) m 0 < side_count net)
    → key_at (within inside (positions net turn)) (rows_of net rows) ≡ numbers net turn (places_in net (sides_in net inside)) rows
key_is net turn inside rows below =
    sym (part_keys net turn inside (rows_of net rows)) ∙ ap (part_key net turn (sides_in net inside)) (listed_rows net rows (sides_in net inside) below) ∙ sym (numbers_are_key net turn rows (sides_in net inside))

-- Assignments with values of sets are those by values, for a family that has just the values of the sets.
module _ (net : Net) (wired : IsWired net) (order : List ℕ) (is_order : IsOrder net order) (names : Names) (inside : ℕ → Bool) (closed : IsClosed net inside) (real : AreSides net inside) (sets family : Family)
    (same : (j : ℕ) (v : JointValue) → j < length net.joints → inside (giver_side net j) ≡ true → (family j v ≡ true) ↔ (sets j v ≡ true)) where
  pub chosen_of : (rows : List ℕ) (items : List (Option Value)) → IsAssignmentOf net names inside sets rows items → HasChoice net names inside family rows items
  chosen_of rows items a =
      has_chosen net wired names inside closed real rows items a.assignment family (λ j lt is.
      let v = a.of_sets j lt is in
      (record { value = v.value; giver_is = v.gives; taker_is = v.takes; item_is = v.item }, (same j v.value lt is).1 v.has))

  pub none_of_sets : HasNone net names inside family → HasNoAssignment net names inside sets
  none_of_sets none rows items a = let c = chosen_of rows items a in none (λ side. get_or rows side 0) c.choice c.chosen

  module _ (rows : ℕ → ℕ) (choice : Choice) (chosen : IsChosen net names inside family rows choice) where
    listed_row : (side : ℕ) → inside side ≡ true → get_or (rows_of net rows) side 0 ≡ rows side
    listed_row side is = get_or-map-range_with_len {X = ℕ} rows 0 (side_count net) side side 0 (real side is) (omega arith)

    of_set : (j : ℕ) → j < length net.joints → inside (giver_side net j) ≡ true → IsOfSet net names sets (rows_of net rows) (items_of net names choice) j
    of_set j lt is =
        let taker_in : inside (taker_side net j) ≡ true = sym (closed.along j no_joint lt) ∙ is in
        record {
          value = choice j;
          has = (same j (choice j) lt is).0 (chosen.from (giver_side net j) is j lt (inl refl));
          gives = ((chosen.fits (giver_side net j) is).gives j lt refl).mark
              ∙ sym (mark_by net (rows_of net rows) (rows (giver_side net j)) (joint_of net j).giver (row_is net (rows_of net rows) (joint_of net j).giver ∙ listed_row (giver_side net j) is));
          takes = ((chosen.fits (taker_side net j) taker_in).takes j lt refl).mark
              ∙ sym (mark_by net (rows_of net rows) (rows (taker_side net j)) (joint_of net j).taker (row_is net (rows_of net rows) (joint_of net j).taker ∙ listed_row (taker_side net j) taker_in));
          item = sym (item_chosen net names choice j lt);
        }

    pub assigned : IsAssignmentOf net names inside sets (rows_of net rows) (items_of net names choice)
    assigned = record { assignment = choices_are_assignments net wired order is_order names inside family closed rows choice chosen; of_sets = of_set }

  module _ (turn : ℕ) (numbers_chosen : List ℕ) (first : IsFirstWith net names inside turn family (places_in net (sides_in net inside)) numbers_chosen) (below : (m : ℕ) → m < length (sides_in net inside) → get_or (sides_in net inside) m 0 < side_count net) where
    pub none_before : (others : List ℕ) (other_items : List (Option Value)) → IsAssignmentOf net names inside sets others other_items
        → order_by (within inside (positions net turn)) others (rows_of net first.first.rows) ≢ Less
    none_before others other_items a =
        let c = chosen_of others other_items a in
        let key_first : key_at (within inside (positions net turn)) (rows_of net first.first.rows) ≡ numbers_chosen = key_is net turn inside first.first.rows below ∙ first.numbers_are in
        let key_other : key_at (within inside (positions net turn)) others ≡ numbers net turn (places_in net (sides_in net inside)) (λ side. get_or others side 0) =
        ap (key_at (within inside (positions net turn))) (sym (same_rows net others a.assignment.one_row)) ∙ key_is net turn inside (λ side. get_or others side 0) below in
        λ e. first.least (λ side. get_or others side 0) c.choice c.chosen ((λ i. slice_cmp nat_cmp (sym key_other i) (sym key_first i)) ∙ e)

    -- The last of the numbers are the rows of the sides.
    pub last_are : drop (length numbers_chosen - length (sides_in net inside)) numbers_chosen ≡ map first.first.rows (sides_in net inside)
    last_are =
        let is : numbers_chosen ≡ part_key net turn (sides_in net inside) (map first.first.rows (sides_in net inside)) = sym first.numbers_are ∙ numbers_are_key net turn first.first.rows (sides_in net inside) in
        let count : length (sides_in net inside) ≡ length (map first.first.rows (sides_in net inside)) = sym (length-map (sides_in net inside) first.first.rows) in
        (λ i. drop (length (is i) - count i) (is i)) ∙ last_rows net turn (sides_in net inside) (map first.first.rows (sides_in net inside))

    pub last_rows_are : drop (length numbers_chosen - length (sides_in net inside)) numbers_chosen ≡ part_rows (sides_in net inside) (rows_of net first.first.rows)
    last_rows_are = last_are ∙ sym (listed_rows net first.first.rows (sides_in net inside) below)
