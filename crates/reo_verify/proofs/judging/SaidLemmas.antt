-- The rows that the cells of entries are.
use Rattle.std.proofs.Common.{◌≡◌, ◌∙◌, ℕ, zero, suc, ◌+◌, ◌-◌, ◌<◌, ◌==◌, Bool, true, false, if◌then◌else◌, List, [], ◌∷◌, ◌++◌, Some, length, map, get_or, take, refl, sym, ap, arith, rules}
use Rattle.std.specs.Prelude.{slice_get}
use Rattle.std.specs.List.{flat_map, range_with_len}
use Rattle.std.proofs.lemmas.List.{get_or_append_left, get_or-append-add}
use Rattle.std.proofs.lemmas.Option.{slice_get-get_or, slice_get_within}
use mathlib.Core.List.{append_assoc, append-nil}
use lib.ListN.{length-append}
use Rattle.reo_net_base.specs.Behaviour.{Behaviour}
use Rattle.reo_net_base.specs.Lawful.{IsLawful}
use Rattle.reo_net_base.specs.Net.{Net, sides_of, all_sides, first_side, behaviour_at, row_count}
use Rattle.reo_net_base.specs.Sides.{AreRowsOf}
use Rattle.reo_net_laws.proofs.Sides.{are_rows, side_count, owner_of, owner_side, Owner}
use Rattle.reo_trace.specs.declared.line.Cell.{Cell}
use Rattle.reo_trace.specs.declared.line.Cell.TheVariants.{Row, Jam}
use Rattle.reo_trace.specs.declared.line.Entry.{Entry}
use Rattle.reo_trace.specs.declared.line.Entry.TheVariants.{One, Two}
use Rattle.reo_trace.specs.Entries.{cell_of, entry_at}
use Rattle.reo_runs.specs.verdicts.Said.{cells_of, AreCounted, IsRowOf, HasRows, AreSaid}
use Rattle.reo_verify.specs.judging.Entries.{row_by, rows_by, rows_of}

-- One primitive more.
pub rows_more : (bs : List Behaviour) (es : List Entry) (b : Behaviour) (e : Entry) → length es ≡ length bs → rows_of (bs ++ b ∷ []) (es ++ e ∷ []) ≡ rows_of bs es ++ rows_by b e
rows_more [] [] b e same = append-nil (rows_by b e)
rows_more [] (f ∷ es) b e same = absurd (omega (arith, same))
rows_more (d ∷ bs) [] b e same = absurd (omega (arith, same))
rows_more (d ∷ bs) (f ∷ es) b e same = ap (λ rows. rows_by d f ++ rows) (rows_more bs es b e (omega (arith, same))) ∙ sym (append_assoc (rows_by d f) (rows_of bs es) (rows_by b e))

count_by_cells : (b : Behaviour) (e : Entry) → length (rows_by b e) ≡ length (cells_of e)
count_by_cells b (One cell) = refl
count_by_cells b (Two mouth tail) = refl

-- The row at a cell.
row_at_cell : (b : Behaviour) (e : Entry) (side : ℕ) (cell : Cell) → slice_get (cells_of e) side ≡ Some cell → get_or (rows_by b e) side 0 ≡ row_by (b.rows side) cell
row_at_cell b (One c) zero cell is = let same : c ≡ cell = cc in ap (row_by (b.rows 0)) same
row_at_cell b (One c) (suc side) cell is = absurd (cc)
row_at_cell b (Two m t) zero cell is = let same : m ≡ cell = cc in ap (row_by (b.rows 0)) same
row_at_cell b (Two m t) (suc zero) cell is = let same : t ≡ cell = cc in ap (row_by (b.rows 1)) same
row_at_cell b (Two m t) (suc (suc side)) cell is = absurd (cc)

-- A row of a cell is in the table, and shows the cell.
in_table : (rows : ℕ) (cell : Cell) → 0 < rows → IsRowOf rows cell → row_by rows cell < rows
in_table rows (Row row) some is = omega (arith, is)
in_table rows Jam some is = omega (arith, some)

by_test : (rows row : ℕ) (t : Bool) → ((row + 1) == rows) ≡ t → row + 1 < rows → (if (row + 1) == rows then Jam else Row row) ≡ Row row
by_test rows row true is lt = let same : row + 1 ≡ rows = search rules in absurd (omega (arith, lt, same))
by_test rows row false is lt = rw is refl

jam_test : (rows row : ℕ) → row + 1 ≡ rows → (if (row + 1) == rows then Jam else Row row) ≡ Jam
jam_test rows row is = let test : ((row + 1) == rows) ≡ true = search rules in rw test refl

cell_back : (b : Behaviour) (side : ℕ) (cell : Cell) → 0 < b.rows side → IsRowOf (b.rows side) cell → cell_of b side (row_by (b.rows side) cell) ≡ cell
cell_back b side (Row row) some is = by_test (b.rows side) row ((row + 1) == b.rows side) refl is
cell_back b side Jam some is = jam_test (b.rows side) (b.rows side - 1) (omega (arith, some))

-- A list from its places.
by_place : {X : Type 0} (f : ℕ → X) (xs : List X) (k : ℕ) → ((i : ℕ) (x : X) → slice_get xs i ≡ Some x → f (k + i) ≡ x) → map f (range_with_len k (length xs)) ≡ xs
by_place f [] k places = refl
by_place f (x ∷ xs) k places =
    let zero_more : k + 0 ≡ k = omega arith in
    let here : f k ≡ x = rw zero_more at (places 0 x refl) in
    let rest = by_place f xs (k + 1) (λ i y is. let one_more : (k + 1) + i ≡ k + suc i = omega arith in ap f one_more ∙ places (suc i) y is) in
    ap (λ y. y ∷ map f (range_with_len (k + 1) (length xs))) here ∙ ap (λ ys. x ∷ ys) rest

-- Entries with a cell for each side.
abbrev Counts : List Behaviour → List Entry → Type 0
Counts bs es = (i : ℕ) (e : Entry) → slice_get es i ≡ Some e → length (cells_of e) ≡ (behaviour_at bs i).sides

rows_count : (bs : List Behaviour) (es : List Entry) → length es ≡ length bs → Counts bs es → length (rows_of bs es) ≡ length (all_sides bs)
rows_count [] es same counts = refl
rows_count (b ∷ bs) [] same counts = absurd (omega (arith, same))
rows_count (b ∷ bs) (e ∷ es) same counts =
    let rest = rows_count bs es (omega (arith, same)) (λ i f is. counts (suc i) f is) in
    omega (arith, length-append (rows_by b e) (rows_of bs es), length-append (sides_of b) (all_sides bs), rest, count_by_cells b e, counts 0 e refl, side_count b)

row_at_place : (bs : List Behaviour) (es : List Entry) (i side : ℕ) (e : Entry) → length es ≡ length bs → Counts bs es → slice_get es i ≡ Some e → side < length (cells_of e)
    → get_or (rows_of bs es) (first_side bs i + side) 0 ≡ get_or (rows_by (behaviour_at bs i) e) side 0
row_at_place bs [] i side e same counts is lt = absurd (cc)
row_at_place [] (f ∷ es) i side e same counts is lt = absurd (omega (arith, same))
row_at_place (b ∷ bs) (f ∷ es) zero side e same counts is lt =
    let here : f ≡ e = cc in
    let first : first_side (b ∷ bs) 0 + side ≡ side = omega arith in
    ap (λ k. get_or (rows_by b f ++ rows_of bs es) k 0) first ∙ get_or_append_left (rows_by b f) (rows_of bs es) 0 side (omega (arith, lt, count_by_cells b f, ap (λ (g : Entry). length (cells_of g)) here)) ∙ ap (λ (g : Entry). get_or (rows_by b g) side 0) here
row_at_place (b ∷ bs) (f ∷ es) (suc i) side e same counts is lt =
    let place : first_side (b ∷ bs) (suc i) + side ≡ length (rows_by b f) + (first_side bs i + side) =
    omega (arith, length-append (sides_of b) (flat_map sides_of (take i bs)), side_count b, count_by_cells b f, counts 0 f refl) in
    ap (λ k. get_or (rows_by b f ++ rows_of bs es) k 0) place ∙ get_or-append-add (rows_by b f) (rows_of bs es) (first_side bs i + side) 0
    ∙ row_at_place bs es i side e (omega (arith, same)) (λ j g at. counts (suc j) g at) is lt

module _ (net : Net) (entries : List Entry) (lawful : (i : ℕ) → i < length net.primitives → IsLawful (behaviour_at net.primitives i)) (counted : AreCounted net entries)
    (fit : (i : ℕ) → i < length net.primitives → HasRows net entries i) where
  -- The row of a side of a primitive.
  row_there : (i side : ℕ) (e : Entry) (cell : Cell) → slice_get entries i ≡ Some e → slice_get (cells_of e) side ≡ Some cell
      → get_or (rows_of net.primitives entries) (first_side net.primitives i + side) 0 ≡ row_by ((behaviour_at net.primitives i).rows side) cell
  row_there i side e cell e_is is =
      row_at_place net.primitives entries i side e counted.one_each counted.cells e_is (slice_get_within (cells_of e) side cell is)
      ∙ row_at_cell (behaviour_at net.primitives i) e side cell is

  inside : (i : ℕ) (e : Entry) → slice_get entries i ≡ Some e → i < length net.primitives
  inside i e is = omega (arith, slice_get_within entries i e is, counted.one_each)

  some : (i side : ℕ) (e : Entry) (cell : Cell) → slice_get entries i ≡ Some e → slice_get (cells_of e) side ≡ Some cell → 0 < (behaviour_at net.primitives i).rows side
  some i side e cell e_is is = (lawful i (inside i e e_is)).some_row side (omega (arith, slice_get_within (cells_of e) side cell is, counted.cells i e e_is))

  shows : (i side : ℕ) (e : Entry) (cell : Cell) → slice_get entries i ≡ Some e → slice_get (cells_of e) side ≡ Some cell
      → cell_of (behaviour_at net.primitives i) side (get_or (rows_of net.primitives entries) (first_side net.primitives i + side) 0) ≡ cell
  shows i side e cell e_is is =
      ap (cell_of (behaviour_at net.primitives i) side) (row_there i side e cell e_is is)
      ∙ cell_back (behaviour_at net.primitives i) side cell (some i side e cell e_is is) (fit i (inside i e e_is) e side cell e_is is)

  in_tables : AreRowsOf net (rows_of net.primitives entries)
  in_tables = are_rows (all_sides net.primitives) (rows_of net.primitives entries) (rows_count net.primitives entries counted.one_each counted.cells) (λ k d lt.
      let o : Owner net.primitives k = owner_of net.primitives k lt in
      let e : Entry = get_or entries o.primitive (One Jam) in
      let e_is = slice_get-get_or entries o.primitive (One Jam) (omega (arith, o.primitive_in, counted.one_each)) in
      let cell : Cell = get_or (cells_of e) o.number Jam in
      let is = slice_get-get_or (cells_of e) o.number Jam (omega (arith, o.number_in, counted.cells o.primitive e e_is)) in
      let row = row_there o.primitive o.number e cell e_is is in
      let below = in_table ((behaviour_at net.primitives o.primitive).rows o.number) cell (some o.primitive o.number e cell e_is is) (fit o.primitive o.primitive_in e o.number cell e_is is) in
      let there : get_or (rows_of net.primitives entries) k 0 ≡ row_by ((behaviour_at net.primitives o.primitive).rows o.number) cell =
      ap (λ n. get_or (rows_of net.primitives entries) n 0) o.place ∙ row in
      let side : row_count (get_or (all_sides net.primitives) k d) ≡ (behaviour_at net.primitives o.primitive).rows o.number = ap row_count (owner_side net.primitives k o d) in
      omega (arith, there, side, below))

  entry_back : (i : ℕ) (e : Entry) → slice_get entries i ≡ Some e → entry_at net (rows_of net.primitives entries) i ≡ e
  unfolding entry_at
  entry_back i (One cell) is =
      let one : ((behaviour_at net.primitives i).sides == 2) ≡ false = let count = counted.cells i (One cell) is in rw (sym count) refl in
      let none : first_side net.primitives i + 0 ≡ first_side net.primitives i = omega arith in
      rw one (ap One (rw none at (shows i 0 (One cell) cell is refl)))
  entry_back i (Two mouth tail) is =
      let two : ((behaviour_at net.primitives i).sides == 2) ≡ true = let count = counted.cells i (Two mouth tail) is in rw (sym count) refl in
      let none : first_side net.primitives i + 0 ≡ first_side net.primitives i = omega arith in
      let first = rw none at (shows i 0 (Two mouth tail) mouth is refl) in
      let second = shows i 1 (Two mouth tail) tail is refl in
      rw two (ap (λ c. Two c (cell_of (behaviour_at net.primitives i) 1 (get_or (rows_of net.primitives entries) (first_side net.primitives i + 1) 0))) first ∙ ap (Two mouth) second)

  -- They are said by the entries.
  pub are_said : AreSaid net entries (rows_of net.primitives entries)
  are_said = record {
    in_tables = in_tables;
    shown = ap (λ n. map (entry_at net (rows_of net.primitives entries)) (range_with_len 0 n)) (sym counted.one_each)
        ∙ by_place (entry_at net (rows_of net.primitives entries)) entries 0 (λ i e is. let here : 0 + i ≡ i = omega arith in rw here (entry_back i e is));
  }
