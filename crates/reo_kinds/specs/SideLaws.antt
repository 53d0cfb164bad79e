-- What the form of a side owes to the laws of a primitive, and that tables which pass the test do.
use Rattle.std.proofs.Common.{ℕ, zero, suc, ◌+◌, ◌-◌, ◌%◌, ◌<◌, ◌≤◌, ◌≡◌, ◌≢◌, ◌^◌, cond, Bool, true, false, length, List, [], slice_index_or, ap, Some, nat_lt, refl, sym, ◌∙◌, arith}
use Rattle.std.proofs.lemmas.Bool.Decides.{nat_tests}
use Rattle.std.proofs.Math.Nat.{mod-lt, mod-eq_of_lt, mod-eq-sub-mod}
use Rattle.std.proofs.Math.ListN.{get_or-eq_default}
use Rattle.reo_net_base.specs.declared.mark.Mark.{Mark}
use Rattle.reo_net_base.specs.declared.mark.Mark.TheVariants.{F, J}
use Rattle.reo_net_base.specs.Rows.{Rows, mark_in}
use Rattle.reo_net_base.specs.Branching.{merger_mark, merger_class, beginning}
use Rattle.reo_net_base.specs.declared.branches.Branches.{Branches}
use Rattle.reo_net_base.specs.declared.table.Table.{Table}
use Rattle.reo_net_base.specs.declared.form.Form.{Form}
use Rattle.reo_net_base.specs.declared.form.Form.TheVariants.{Single, Double, Merging, Replicating}
use Rattle.reo_net_base.specs.Tables.{rows_of}
use Rattle.reo_net_base.specs.Forms.{rows_by, mark_by, class_by, groups_by, group_by, common_by, apart_by}
use Rattle.reo_kinds.specs.TableTests.{TableFacts}

abbrev pub FlowsBy : Form → (ℕ → Type 0) → ℕ → ℕ → Type 0
FlowsBy form IsIn row other = (end : ℕ) → IsIn end → mark_by form row end ≡ F → mark_by form other end ≡ F

-- The laws of a table at the ends of its side.
pub record IsSide (form : Form) (IsIn : ℕ → Type 0) : Type 0 where
  pub some_row : 0 < rows_by form
  pub few_rows : rows_by form < 2 ^ 32
  pub jam_row : (row end : ℕ) → IsIn end → row + 1 ≡ rows_by form → mark_by form row end ≡ J
  pub no_other_jam : (row end : ℕ) → IsIn end → row + 1 < rows_by form → mark_by form row end ≢ J
  pub told_apart : (row other : ℕ) → row < rows_by form → other < rows_by form
      → ((end : ℕ) → IsIn end → mark_by form row end ≡ mark_by form other end) → row ≡ other
  pub more_flow : (row other turn : ℕ) → row + 1 < rows_by form → other + 1 < rows_by form → FlowsBy form IsIn row other
      → (end : ℕ) → IsIn end → mark_by form other end ≡ F → mark_by form row end ≢ F → class_by form other turn < class_by form row turn
  pub same_class : (row other turn : ℕ) → row + 1 < rows_by form → other + 1 < rows_by form → FlowsBy form IsIn row other → FlowsBy form IsIn other row
      → class_by form row turn ≡ class_by form other turn
  pub same_flow : (row other turn : ℕ) → row + 1 < rows_by form → other + 1 < rows_by form → class_by form row turn ≡ class_by form other turn
      → FlowsBy form IsIn row other
  pub jam_last : (row other turn : ℕ) → row + 1 < rows_by form → other + 1 ≡ rows_by form → class_by form row turn < class_by form other turn
  pub group_in : (row : ℕ) → row < rows_by form → group_by form row < groups_by form
  pub few_groups : groups_by form ≤ rows_by form
  pub apart_end : (row end : ℕ) → row < rows_by form → apart_by form row ≡ Some end → IsIn end
  pub common_mark : (row end : ℕ) → row < rows_by form → IsIn end → apart_by form row ≢ Some end → mark_by form row end ≡ common_by form (group_by form row) end

-- Past the rows each mark is jam.
past : (rows : Rows) (row end : ℕ) → row ≡ length rows → mark_in rows row end ≡ J
past rows row end h = ap (λ (marks : List Mark). slice_index_or marks end J) (get_or-eq_default rows [] {n = row} (omega (arith, h))) ∙ get_or-eq_default [] J {n = end} (omega arith)

-- What holds of the end 0 holds of each end below 1.
pub only_zero : (P : ℕ → Type 0) → P 0 → (end : ℕ) → end < 1 → P end
only_zero P h zero e = h
only_zero P h (suc end) e = absurd (omega (arith, e))

module _ (table : Table) (IsIn : ℕ → Type 0) where
  -- A table at two ends.
  pub double_side : TableFacts 2 (rows_of table) → ((end : ℕ) → end < 2 → IsIn end) → ((end : ℕ) → IsIn end → end < 2) → IsSide (Double table) IsIn
  double_side t is_in within = record {
    some_row = omega arith;
    few_rows = omega (arith, t.few);
    jam_row = λ row end e last. past (rows_of table) row end (omega (arith, last));
    no_other_jam = λ row end e plain. t.no_jam row end (omega (arith, plain)) (within end e);
    told_apart = λ row other h k same. t.no_double row other h k (λ end e. same end (is_in end e));
    more_flow = λ row other turn h k flows end e. t.more row other end (omega (arith, h)) (omega (arith, k)) (λ i l. flows i (is_in i l)) (within end e);
    same_class = λ row other turn h k there back. t.equal row other (omega (arith, h)) (omega (arith, k)) (λ i l. there i (is_in i l)) (λ i l. back i (is_in i l));
    same_flow = λ row other turn h k same end e. t.back row other (omega (arith, h)) (omega (arith, k)) same end (within end e);
    jam_last = λ row other turn h last. let place = t.place row (omega (arith, h)) in let jam = t.jam in let is : other ≡ length (rows_of table) = omega (arith, last) in rw (is, jam) place;
    group_in = λ row h. h;
    few_groups = omega arith;
    apart_end = λ row end h is. cc;
    common_mark = λ row end h e other. refl;
  }

  -- A table at one end, whatever its number.
  pub single_side : TableFacts 1 (rows_of table) → (end : ℕ) → IsIn end → IsSide (Single table) IsIn
  single_side t one is_in = record {
    some_row = omega arith;
    few_rows = omega (arith, t.few);
    jam_row = λ row end e last. past (rows_of table) row 0 (omega (arith, last));
    no_other_jam = λ row end e plain. t.no_jam row 0 (omega (arith, plain)) (omega arith);
    told_apart = λ row other h k same. t.no_double row other h k (only_zero _ (same one is_in));
    more_flow = λ row other turn h k flows end e. t.more row other 0 (omega (arith, h)) (omega (arith, k)) (only_zero _ (flows one is_in)) (omega arith);
    same_class = λ row other turn h k there back. t.equal row other (omega (arith, h)) (omega (arith, k)) (only_zero _ (there one is_in)) (only_zero _ (back one is_in));
    same_flow = λ row other turn h k same end e. t.back row other (omega (arith, h)) (omega (arith, k)) same 0 (omega arith);
    jam_last = λ row other turn h last. let place = t.place row (omega (arith, h)) in let jam = t.jam in let is : other ≡ length (rows_of table) = omega (arith, last) in rw (is, jam) place;
    group_in = λ row h. h;
    few_groups = omega arith;
    apart_end = λ row end h is. cc;
    common_mark = λ row end h e other. refl;
  }

-- The turn of a merger.
turned_early : (m row s : ℕ) → row < m → s < m → row < s → (row + m - s) % m ≡ row + m - s
turned_early m row s h k l = mod-eq_of_lt (omega (arith, h, k, l))

turned_late : (m row s : ℕ) → row < m → s < m → s ≤ row → (row + m - s) % m ≡ row - s
turned_late m row s h k l =
    let lower : row + m - s - m ≡ row - s = omega (arith, h, k, l) in let small : row - s < m = omega (arith, h) in
    mod-eq-sub-mod (omega (arith, h, k, l)) ∙ ap (λ (n : ℕ). n % m) lower ∙ mod-eq_of_lt small

turned_below : (m row turn : ℕ) → 0 < m → (row + m - beginning m turn) % m < m
turned_below m row turn some = mod-lt _ some

apart_from : (m row other s : ℕ) (first second : Bool) → nat_lt row s ≡ first → nat_lt other s ≡ second → row < m → other < m → s < m
    → (row + m - s) % m ≡ (other + m - s) % m → row ≡ other
apart_from m row other s true true p q h k l same =
    let a : row < s = grind (arith, nat_tests) in let b : other < s = grind (arith, nat_tests) in
    let both = sym (turned_early m row s h l a) ∙ same ∙ turned_early m other s k l b in omega (arith, both, h, k, l, a, b)
apart_from m row other s true false p q h k l same =
    let a : row < s = grind (arith, nat_tests) in let b : s ≤ other = grind (arith, nat_tests) in
    let both = sym (turned_early m row s h l a) ∙ same ∙ turned_late m other s k l b in omega (arith, both, h, k, l, a, b)
apart_from m row other s false true p q h k l same =
    let a : s ≤ row = grind (arith, nat_tests) in let b : other < s = grind (arith, nat_tests) in
    let both = sym (turned_late m row s h l a) ∙ same ∙ turned_early m other s k l b in omega (arith, both, h, k, l, a, b)
apart_from m row other s false false p q h k l same =
    let a : s ≤ row = grind (arith, nat_tests) in let b : s ≤ other = grind (arith, nat_tests) in
    let both = sym (turned_late m row s h l a) ∙ same ∙ turned_late m other s k l b in omega (arith, both, h, k, l, a, b)

-- Two inputs with the same place in the turn are one.
turned_apart : (m row other turn : ℕ) → row < m → other < m → (row + m - beginning m turn) % m ≡ (other + m - beginning m turn) % m → row ≡ other
turned_apart m row other turn h k same = apart_from m row other (beginning m turn) (nat_lt row (beginning m turn)) (nat_lt other (beginning m turn)) refl refl h k (mod-lt (turn - 1) (omega (arith, h))) same

-- A row of a merger that flows at some end is one of the first.
pub merger_flow : (m row end : ℕ) → merger_mark m row end ≡ F → row < m
merger_flow m row end f = grind (arith, nat_tests)

-- A row with the class of an input's row is that row.
class_tells : (m row other turn : ℕ) (input : Bool) → nat_lt other m ≡ input → row < m → merger_class m row turn ≡ merger_class m other turn → row ≡ other
class_tells m row other turn true is h same =
    let below : other < m = grind (arith, nat_tests) in
    turned_apart m row other turn h below (grind (arith, nat_tests, same))
class_tells m row other turn false is h same = let small = turned_below m row turn (omega (arith, h)) in absurd (grind (arith, nat_tests, same, small))

-- The input of a flowing row, and the output for each other row.
abbrev own_end : ℕ → ℕ → ℕ
own_end m row = cond (nat_lt row m) row m

own_end_in : (m row : ℕ) → own_end m row < m + 1
own_end_in m row = grind (arith, nat_tests)

-- The one end that a row of a replicator marks R, and the input for each other row.
abbrev lone_end : ℕ → ℕ → ℕ
lone_end n row = cond (nat_lt row (n + 2)) (row - 1) 0

lone_end_in : (n row : ℕ) → lone_end n row < n + 1
lone_end_in n row = grind (arith, nat_tests)

module _ (branches : Branches) (IsIn : ℕ → Type 0) (is_in : (end : ℕ) → end < branches.count + 1 → IsIn end) (within : (end : ℕ) → IsIn end → end < branches.count + 1) where
  pub merger_side : IsSide (Merging branches) IsIn
  merger_side = record {
    some_row = omega arith;
    few_rows = omega (arith, branches.few);
    jam_row = λ row end e last. grind (arith, nat_tests);
    no_other_jam = λ row end e plain. grind (arith, nat_tests);
    told_apart = λ row other p q same.
        let by_row = same (own_end branches.count row) (is_in _ (own_end_in branches.count row)) in let by_other = same (own_end branches.count other) (is_in _ (own_end_in branches.count other)) in
        let by_output = same branches.count (is_in _ (omega arith)) in grind (arith, nat_tests, by_row, by_other, by_output);
    more_flow = λ row other turn p q flows end e f n.
        let at = within end e in let first = merger_flow branches.count other end f in let below = turned_below branches.count other turn (omega (arith, branches.some)) in
        let by_row = flows (own_end branches.count row) (is_in _ (own_end_in branches.count row)) in grind (arith, nat_tests, by_row, below, first, at);
    same_class = λ row other turn p q there back.
        let by_row = there (own_end branches.count row) (is_in _ (own_end_in branches.count row)) in let by_other = back (own_end branches.count other) (is_in _ (own_end_in branches.count other)) in
        grind (arith, nat_tests, by_row, by_other);
    same_flow = λ row other turn p q same end e f. rw (sym (class_tells branches.count row other turn (nat_lt other branches.count) refl (merger_flow branches.count row end f) same)) f;
    jam_last = λ row other turn p last. let below = turned_below branches.count row turn (omega (arith, branches.some)) in grind (arith, nat_tests, below);
    group_in = λ row h. grind (arith, nat_tests);
    few_groups = omega (arith, branches.some);
    apart_end = λ row end h is. is_in end (grind (arith, nat_tests));
    common_mark = λ row end h e other. grind (arith, nat_tests);
  }

module _ (branches : Branches) (IsIn : ℕ → Type 0) (is_in : (end : ℕ) → end < branches.count + 1 → IsIn end) (within : (end : ℕ) → IsIn end → end < branches.count + 1) where
  pub replicator_side : IsSide (Replicating branches) IsIn
  replicator_side = record {
    some_row = omega arith;
    few_rows = omega (arith, branches.few);
    jam_row = λ row end e last. grind (arith, nat_tests);
    no_other_jam = λ row end e plain. grind (arith, nat_tests);
    told_apart = λ row other p q same.
        let by_row = same (lone_end branches.count row) (is_in _ (lone_end_in branches.count row)) in let by_other = same (lone_end branches.count other) (is_in _ (lone_end_in branches.count other)) in
        let by_input = same 0 (is_in _ (omega arith)) in grind (arith, nat_tests, by_row, by_other, by_input);
    more_flow = λ row other turn p q flows end e f rests. grind (arith, nat_tests);
    same_class = λ row other turn p q there back.
        let input_there = there 0 (is_in _ (omega arith)) in let input_back = back 0 (is_in _ (omega arith)) in grind (arith, nat_tests, input_there, input_back);
    same_flow = λ row other turn p q same end e f. grind (arith, nat_tests);
    jam_last = λ row other turn p last. grind (arith, nat_tests);
    group_in = λ row h. grind (arith, nat_tests);
    few_groups = omega (arith, branches.some);
    apart_end = λ row end h is. is_in end (grind (arith, nat_tests));
    common_mark = λ row end h e other. let at = within end e in grind (arith, nat_tests, at);
  }
