-- What entries say: no two lists of rows have the same entries, and entries of rows are counted and have rows.
use Rattle.std.proofs.Common.{◌≡◌, ◌∙◌, ap, sym, refl, ℕ, zero, suc, ◌+◌, ◌<◌, Bool, true, false, cond, List, [], ◌∷◌, length, get_or, arith}
use Rattle.std.specs.Prelude.{◌==◌, Some, slice_get}
use Rattle.std.proofs.lemmas.Bool.Decides.{nat_tests}
use Rattle.std.proofs.lemmas.List.{get_or_default, same_lists}
use Rattle.std.proofs.lemmas.List.FromFn.{get_or-map-range_with_len, length-map-range_with_len}
use Rattle.std.proofs.lemmas.Option.{slice_get-get_or, slice_get_within}
use Rattle.reo_net_base.specs.declared.colouring.Chosen.{Chosen}
use Rattle.reo_net_base.specs.Behaviour.{Behaviour}
use Rattle.reo_net_base.specs.Lawful.{IsLawful}
use Rattle.reo_net_base.specs.Net.{Net, no_side, all_sides, behaviour_at, first_side}
use Rattle.reo_net_base.specs.Sides.{AreRowsOf}
use Rattle.reo_net_base.specs.Step.{chosen_for}
use Rattle.reo_net_base.specs.Wired.{IsWired}
use Rattle.reo_runs.proofs.Sides.{owner_of, rows_length, row_below, side_in, side_is}
use Rattle.reo_trace.specs.declared.line.Cell.{Cell}
use Rattle.reo_trace.specs.declared.line.Cell.TheVariants.{Row, Jam}
use Rattle.reo_trace.specs.declared.line.Entry.{Entry}
use Rattle.reo_trace.specs.declared.line.Entry.TheVariants.{One, Two}
use Rattle.reo_trace.specs.Entries.{cell_of, entry_of, entry_at, entries_of}
use Rattle.reo_runs.specs.verdicts.Said.{cells_of, AreCounted, IsRowOf, HasRows, AreSaid}

-- A cell tells its row.
cell_one_by : (x y n : ℕ) (t u : Bool) → ((x + 1) == n) ≡ t → ((y + 1) == n) ≡ u
    → cond t Jam (Row x) ≡ cond u Jam (Row y) → x ≡ y
cell_one_by x y n true true e f h = grind (arith, nat_tests)
cell_one_by x y n true false e f h = absurd cc
cell_one_by x y n false true e f h = absurd cc
cell_one_by x y n false false e f h = cc

cell_one : (b : Behaviour) (side x y : ℕ) → cell_of b side x ≡ cell_of b side y → x ≡ y
cell_one b side x y h = cell_one_by x y (b.rows side) ((x + 1) == b.rows side) ((y + 1) == b.rows side) refl refl h

-- The cell of a row of the table is a row.
cell_row : (b : Behaviour) (side row : ℕ) → row < b.rows side → IsRowOf (b.rows side) (cell_of b side row)
cell_row b side row lt =
    elim ((row + 1) == b.rows side) as (λ t. ((row + 1) == b.rows side) ≡ t → IsRowOf (b.rows side) (cond t Jam (Row row)))
    [ true ↦ λ e. tt | false ↦ λ e. grind (arith, nat_tests) ] refl

-- An entry tells its one or two rows.
pub record IsOneChoice (b : Behaviour) (c d : Chosen) : Type 0 where
  pub first : c.first ≡ d.first
  pub second : b.sides ≡ 2 → c.second ≡ d.second

entry_one_by : (b : Behaviour) (c d : Chosen) (t : Bool) → (b.sides == 2) ≡ t
    → cond t (Two (cell_of b 0 c.first) (cell_of b 1 c.second)) (One (cell_of b 0 c.first)) ≡ cond t (Two (cell_of b 0 d.first) (cell_of b 1 d.second)) (One (cell_of b 0 d.first))
    → IsOneChoice b c d
entry_one_by b c d true e h =
    let first : cell_of b 0 c.first ≡ cell_of b 0 d.first = cc in
    let second : cell_of b 1 c.second ≡ cell_of b 1 d.second = cc in
    record { first = cell_one b 0 c.first d.first first; second = λ _. cell_one b 1 c.second d.second second }
entry_one_by b c d false e h =
    let first : cell_of b 0 c.first ≡ cell_of b 0 d.first = cc in
    record { first = cell_one b 0 c.first d.first first; second = λ two. absurd (grind (arith, nat_tests)) }

entry_one : (b : Behaviour) (c d : Chosen) → entry_of b c ≡ entry_of b d → IsOneChoice b c d
entry_one b c d h = entry_one_by b c d (b.sides == 2) refl h

-- An entry has a cell for each side.
entry_cells : (b : Behaviour) (c : Chosen) → IsLawful b → length (cells_of (entry_of b c)) ≡ b.sides
entry_cells b c lawful =
    elim (b.sides == 2) as (λ t. (b.sides == 2) ≡ t → length (cells_of (cond t (Two (cell_of b 0 c.first) (cell_of b 1 c.second)) (One (cell_of b 0 c.first)))) ≡ b.sides) [
      | true ↦ λ e. grind (arith, nat_tests)
      | false ↦ λ e. grind (arith, nat_tests, lawful.some_side, lawful.few_sides)
    ] refl

two_rows : (b : Behaviour) (x y side : ℕ) (cell : Cell) → x < b.rows 0 → y < b.rows 1 → slice_get (cell_of b 0 x ∷ cell_of b 1 y ∷ []) side ≡ Some cell → IsRowOf (b.rows side) cell
two_rows b x y zero cell x_in y_in h = let same : cell_of b 0 x ≡ cell = cc in rw (← same) (cell_row b 0 x x_in)
two_rows b x y (suc zero) cell x_in y_in h = let same : cell_of b 1 y ≡ cell = cc in rw (← same) (cell_row b 1 y y_in)
two_rows b x y (suc (suc side)) cell x_in y_in h = absurd cc

one_row : (b : Behaviour) (x side : ℕ) (cell : Cell) → x < b.rows 0 → slice_get (cell_of b 0 x ∷ []) side ≡ Some cell → IsRowOf (b.rows side) cell
one_row b x zero cell x_in h = let same : cell_of b 0 x ≡ cell = cc in rw (← same) (cell_row b 0 x x_in)
one_row b x (suc side) cell x_in h = absurd cc

-- The cells of rows of the tables are rows.
entry_rows : (b : Behaviour) (c : Chosen) → c.first < b.rows 0 → (b.sides ≡ 2 → c.second < b.rows 1) → (side : ℕ) (cell : Cell)
    → slice_get (cells_of (entry_of b c)) side ≡ Some cell → IsRowOf (b.rows side) cell
entry_rows b c first second side cell =
    elim (b.sides == 2) as (λ t. (b.sides == 2) ≡ t → slice_get (cells_of (cond t (Two (cell_of b 0 c.first) (cell_of b 1 c.second)) (One (cell_of b 0 c.first)))) side ≡ Some cell → IsRowOf (b.rows side) cell) [
      | true ↦ λ e h. let two : b.sides ≡ 2 = grind (arith, nat_tests) in two_rows b c.first c.second side cell first (second two) h
      | false ↦ λ e h. one_row b c.first side cell first h
    ] refl

module _ (net : Net) (wired : IsWired net) where
  entries_length : (rows : List ℕ) → length (entries_of net rows) ≡ length net.primitives
  entries_length rows = length-map-range_with_len (entry_at net rows) 0 (length net.primitives)

  entry_is : (rows : List ℕ) (i : ℕ) → i < length net.primitives → slice_get (entries_of net rows) i ≡ Some (entry_of (behaviour_at net.primitives i) (chosen_for net rows i))
  unfolding entry_at
  entry_is rows i lt =
      slice_get-get_or (entries_of net rows) i (entry_at net rows i) (omega (arith, entries_length rows))
      ∙ ap (λ (e : Entry). Some e) (get_or-map-range_with_len (entry_at net rows) 0 (length net.primitives) i i (entry_at net rows i) lt (omega arith))

  second_is : (rows : List ℕ) (i : ℕ) → (behaviour_at net.primitives i).sides ≡ 2 → (chosen_for net rows i).second ≡ get_or rows (first_side net.primitives i + 1) 0
  second_is rows i two = let yes : ((behaviour_at net.primitives i).sides == 2) ≡ true = grind (arith, nat_tests) in rw yes refl

  choice_one : (rows others : List ℕ) → entries_of net rows ≡ entries_of net others → (i : ℕ) → i < length net.primitives
      → IsOneChoice (behaviour_at net.primitives i) (chosen_for net rows i) (chosen_for net others i)
  choice_one rows others same i lt =
      let b : Behaviour = behaviour_at net.primitives i in
      let both : Some (entry_of b (chosen_for net rows i)) ≡ Some (entry_of b (chosen_for net others i)) = sym (entry_is rows i lt) ∙ ap (λ (es : List Entry). slice_get es i) same ∙ entry_is others i lt in
      let entries : entry_of b (chosen_for net rows i) ≡ entry_of b (chosen_for net others i) = cc in
      entry_one b (chosen_for net rows i) (chosen_for net others i) entries

  row_one : (rows others : List ℕ) → entries_of net rows ≡ entries_of net others → (i side : ℕ) → i < length net.primitives → side < (behaviour_at net.primitives i).sides
      → get_or rows (first_side net.primitives i + side) 0 ≡ get_or others (first_side net.primitives i + side) 0
  row_one rows others same i zero i_in side_in =
      let here : first_side net.primitives i + zero ≡ first_side net.primitives i = omega arith in
      rw here (choice_one rows others same i i_in).first
  row_one rows others same i (suc zero) i_in side_in =
      let two : (behaviour_at net.primitives i).sides ≡ 2 = omega (arith, (wired.lawful i i_in).few_sides) in
      sym (second_is rows i two) ∙ (choice_one rows others same i i_in).second two ∙ second_is others i two
  row_one rows others same i (suc (suc side)) i_in side_in = absurd (omega (arith, (wired.lawful i i_in).few_sides))

  -- Entries say one list of rows.
  pub one_said : (entries : List Entry) (rows others : List ℕ) → AreSaid net entries rows → AreSaid net entries others → rows ≡ others
  one_said entries rows others p q =
      let count = rows_length (all_sides net.primitives) rows p.in_tables in
      let other_count = rows_length (all_sides net.primitives) others q.in_tables in
      same_lists rows others (count ∙ sym other_count) (λ k d lt.
      let o = owner_of net.primitives k (omega (arith, count)) in
      let here : get_or rows k 0 ≡ get_or others k 0 = rw o.place (row_one rows others (p.shown ∙ sym q.shown) o.primitive o.number o.primitive_in o.number_in) in
      rw (get_or_default rows k 0 d lt, get_or_default others k 0 d (omega (arith, count, other_count))) at here)

  -- Entries that say rows are counted.
  pub said_counted : (entries : List Entry) (rows : List ℕ) → AreSaid net entries rows → AreCounted net entries
  said_counted entries rows p = record {
    one_each = ap length (sym p.shown) ∙ entries_length rows;
    cells = λ i e is.
        let lt : i < length net.primitives = omega (arith, slice_get_within entries i e is, ap length p.shown, entries_length rows) in
        let both : Some (entry_of (behaviour_at net.primitives i) (chosen_for net rows i)) ≡ Some e = sym (entry_is rows i lt) ∙ ap (λ (es : List Entry). slice_get es i) p.shown ∙ is in
        let same : entry_of (behaviour_at net.primitives i) (chosen_for net rows i) ≡ e = cc in
        ap (λ (x : Entry). length (cells_of x)) (sym same) ∙ entry_cells (behaviour_at net.primitives i) (chosen_for net rows i) (wired.lawful i lt);
  }

  row_in : (rows : List ℕ) → AreRowsOf net rows → (i side : ℕ) → i < length net.primitives → side < (behaviour_at net.primitives i).sides
      → get_or rows (first_side net.primitives i + side) 0 < (behaviour_at net.primitives i).rows side
  row_in rows are i side i_in s_in =
      rw (side_is net.primitives i side no_side i_in s_in) at
      (row_below (all_sides net.primitives) rows are (first_side net.primitives i + side) no_side (side_in net.primitives i side i_in s_in))

  -- Entries that say rows have rows.
  pub said_rows : (entries : List Entry) (rows : List ℕ) → AreSaid net entries rows → (i : ℕ) → i < length net.primitives → HasRows net entries i
  said_rows entries rows p i lt e side cell is cell_is =
      let b : Behaviour = behaviour_at net.primitives i in
      let lawful = wired.lawful i lt in
      let both : Some (entry_of b (chosen_for net rows i)) ≡ Some e = sym (entry_is rows i lt) ∙ ap (λ (es : List Entry). slice_get es i) p.shown ∙ is in
      let same : entry_of b (chosen_for net rows i) ≡ e = cc in
      let here : first_side net.primitives i + zero ≡ first_side net.primitives i = omega arith in
      let first : (chosen_for net rows i).first < b.rows 0 = rw here at (row_in rows p.in_tables i 0 lt lawful.some_side) in
      let second : b.sides ≡ 2 → (chosen_for net rows i).second < b.rows 1 = λ two. rw (second_is rows i two) (row_in rows p.in_tables i 1 lt (omega (arith, two))) in
      entry_rows b (chosen_for net rows i) first second side cell (ap (λ (x : Entry). slice_get (cells_of x) side) same ∙ cell_is)
