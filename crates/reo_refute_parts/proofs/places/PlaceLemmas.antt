-- Places of keys, side by side.
use Rattle.std.proofs.Common.{◌≡◌, ℕ, ◌+◌, ◌<◌, ◌≤◌, List, [], ◌∷◌, ◌++◌, Bool, true, false, cond, get_or, map, drop, refl, ap, sym, ◌∙◌, add-one}
use Rattle.std.proofs.Math.Seq.{drop-cons}
use Rattle.std.proofs.lemmas.List.{drop_all, append-nil, map-append}
use Rattle.reo_net_base.specs.Net.{Net, Side, all_sides, no_side}
use Rattle.reo_net_base.specs.Sides.{side_count}
use Rattle.reo_net_base.specs.First.{Position, is_leading, class_position, leading_positions, class_positions, row_positions, positions}
use Rattle.reo_refute_parts.specs.declared.places.place.Number.TheVariants.{Class, Row}
use Rattle.reo_refute_parts.specs.declared.places.place.SidePlace.{SidePlace}
use Rattle.reo_refute_parts.specs.places.KeyPlaces.{position_of}

-- The place of the class, and that of the row, of a side.
abbrev pub class_place : ℕ → SidePlace
class_place k = record { side = k; number = Class }

abbrev pub row_place : ℕ → SidePlace
row_place k = record { side = k; number = Row }

added : (f : SidePlace → Position) (xs : List SidePlace) (x : SidePlace) (ys : List Position) → map f (xs ++ (x ∷ [])) ++ ys ≡ map f xs ++ (f x ∷ ys)
added f [] x ys = refl
added f (y ∷ xs) x ys = ap (λ (l : List Position). f y ∷ l) (added f xs x ys)

module _ (net : Net) where
  -- The places so far, with those of the sides that are left, are those of all sides.
  abbrev pub LeadingFrom : List SidePlace → ℕ → Type 0
  LeadingFrom places k = (turn : ℕ) → map (position_of net turn) places ++ leading_positions turn (drop k (all_sides net.primitives)) k ≡ leading_positions turn (all_sides net.primitives) 0

  abbrev pub ClassesFrom : List SidePlace → ℕ → Type 0
  ClassesFrom places k = (turn : ℕ) → map (position_of net turn) places ++ class_positions turn (drop k (all_sides net.primitives)) k ≡ class_positions turn (all_sides net.primitives) 0

  abbrev pub RowsFrom : List SidePlace → ℕ → Type 0
  RowsFrom places k = (turn : ℕ) → map (position_of net turn) places ++ row_positions (drop k (all_sides net.primitives)) k ≡ row_positions (all_sides net.primitives) 0

  abbrev Whole : List SidePlace → (ℕ → List Position) → Type 0
  Whole places whole = (turn : ℕ) → map (position_of net turn) places ≡ whole turn

  ended : (turn : ℕ) (places : List SidePlace) (rest whole : List Position) → rest ≡ [] → map (position_of net turn) places ++ rest ≡ whole → map (position_of net turn) places ≡ whole
  ended turn places rest whole none same = sym (append-nil (map (position_of net turn) places)) ∙ ap (λ (l : List Position). map (position_of net turn) places ++ l) (sym none) ∙ same

  leading_step : (turn k : ℕ) → k < side_count net → leading_positions turn (drop k (all_sides net.primitives)) k
      ≡ cond (is_leading (get_or (all_sides net.primitives) k no_side)) (class_position turn (get_or (all_sides net.primitives) k no_side) k ∷ leading_positions turn (drop (k + 1) (all_sides net.primitives)) (k + 1)) (leading_positions turn (drop (k + 1) (all_sides net.primitives)) (k + 1))
  leading_step turn k lt = rw (add-one, drop-cons (all_sides net.primitives) k no_side lt) refl

  pub leading_added : (places : List SidePlace) (k : ℕ) → k < side_count net → is_leading (get_or (all_sides net.primitives) k no_side) ≡ true → LeadingFrom places k → LeadingFrom (places ++ (class_place k ∷ [])) (k + 1)
  leading_added places k lt leads from turn =
      let later : List Position = leading_positions turn (drop (k + 1) (all_sides net.primitives)) (k + 1) in
      let here : Position = class_position turn (get_or (all_sides net.primitives) k no_side) k in
      added (position_of net turn) places (class_place k) later
      ∙ ap (λ (l : List Position). map (position_of net turn) places ++ l) (sym (leading_step turn k lt ∙ ap (λ (t : Bool). cond t (here ∷ later) later) leads))
      ∙ from turn

  pub leading_skipped : (places : List SidePlace) (k : ℕ) → k < side_count net → is_leading (get_or (all_sides net.primitives) k no_side) ≡ false → LeadingFrom places k → LeadingFrom places (k + 1)
  leading_skipped places k lt leads from turn =
      let later : List Position = leading_positions turn (drop (k + 1) (all_sides net.primitives)) (k + 1) in
      let here : Position = class_position turn (get_or (all_sides net.primitives) k no_side) k in
      ap (λ (l : List Position). map (position_of net turn) places ++ l) (sym (leading_step turn k lt ∙ ap (λ (t : Bool). cond t (here ∷ later) later) leads))
      ∙ from turn

  pub leading_ended : (places : List SidePlace) (k : ℕ) → side_count net ≤ k → LeadingFrom places k → Whole places (λ turn. leading_positions turn (all_sides net.primitives) 0)
  leading_ended places k le from turn =
      ended turn places (leading_positions turn (drop k (all_sides net.primitives)) k) (leading_positions turn (all_sides net.primitives) 0)
      (ap (λ (l : List Side). leading_positions turn l k) (drop_all k (all_sides net.primitives) le)) (from turn)

  class_step : (turn k : ℕ) → k < side_count net → class_positions turn (drop k (all_sides net.primitives)) k
      ≡ class_position turn (get_or (all_sides net.primitives) k no_side) k ∷ class_positions turn (drop (k + 1) (all_sides net.primitives)) (k + 1)
  class_step turn k lt = rw (add-one, drop-cons (all_sides net.primitives) k no_side lt) refl

  pub class_added : (places : List SidePlace) (k : ℕ) → k < side_count net → ClassesFrom places k → ClassesFrom (places ++ (class_place k ∷ [])) (k + 1)
  class_added places k lt from turn =
      added (position_of net turn) places (class_place k) (class_positions turn (drop (k + 1) (all_sides net.primitives)) (k + 1))
      ∙ ap (λ (l : List Position). map (position_of net turn) places ++ l) (sym (class_step turn k lt))
      ∙ from turn

  pub class_ended : (places : List SidePlace) (k : ℕ) → side_count net ≤ k → ClassesFrom places k → Whole places (λ turn. class_positions turn (all_sides net.primitives) 0)
  class_ended places k le from turn =
      ended turn places (class_positions turn (drop k (all_sides net.primitives)) k) (class_positions turn (all_sides net.primitives) 0)
      (ap (λ (l : List Side). class_positions turn l k) (drop_all k (all_sides net.primitives) le)) (from turn)

  row_step : (turn k : ℕ) → k < side_count net → row_positions (drop k (all_sides net.primitives)) k
      ≡ position_of net turn (row_place k) ∷ row_positions (drop (k + 1) (all_sides net.primitives)) (k + 1)
  row_step turn k lt = rw (add-one, drop-cons (all_sides net.primitives) k no_side lt) refl

  pub row_added : (places : List SidePlace) (k : ℕ) → k < side_count net → RowsFrom places k → RowsFrom (places ++ (row_place k ∷ [])) (k + 1)
  row_added places k lt from turn =
      added (position_of net turn) places (row_place k) (row_positions (drop (k + 1) (all_sides net.primitives)) (k + 1))
      ∙ ap (λ (l : List Position). map (position_of net turn) places ++ l) (sym (row_step turn k lt))
      ∙ from turn

  pub row_ended : (places : List SidePlace) (k : ℕ) → side_count net ≤ k → RowsFrom places k → Whole places (λ turn. row_positions (all_sides net.primitives) 0)
  row_ended places k le from turn =
      ended turn places (row_positions (drop k (all_sides net.primitives)) k) (row_positions (all_sides net.primitives) 0)
      (ap (λ (l : List Side). row_positions l k) (drop_all k (all_sides net.primitives) le)) (from turn)

  -- All places, one kind after another.
  pub all_placed : (a b c : List SidePlace) → Whole a (λ turn. leading_positions turn (all_sides net.primitives) 0) → Whole b (λ turn. class_positions turn (all_sides net.primitives) 0) → Whole c (λ turn. row_positions (all_sides net.primitives) 0)
      → Whole (a ++ (b ++ c)) (positions net)
  all_placed a b c first second third turn =
      map-append (position_of net turn) a (b ++ c)
      ∙ ap (λ (l : List Position). map (position_of net turn) a ++ l) (map-append (position_of net turn) b c)
      ∙ ap (λ (l : List Position). l ++ (map (position_of net turn) b ++ map (position_of net turn) c)) (first turn)
      ∙ ap (λ (l : List Position). leading_positions turn (all_sides net.primitives) 0 ++ (l ++ map (position_of net turn) c)) (second turn)
      ∙ ap (λ (l : List Position). leading_positions turn (all_sides net.primitives) 0 ++ (class_positions turn (all_sides net.primitives) 0 ++ l)) (third turn)
