-- A test of tables, which the checker computes, and what holds of a table that passes it.
use Rattle.std.proofs.Common.{ℕ, zero, suc, ◌+◌, ◌<◌, ◌≡◌, ◌≢◌, ◌==◌, ◌&&◌, not, Bool, true, false, [], length, slice_index_or, nat_lt, refl, ap, arith}
use Rattle.std.specs.List.{position_or_len}
use Rattle.std.proofs.lemmas.Bool.Decides.{nat_tests}
use Rattle.reo_net_base.specs.declared.mark.Mark.{Mark}
use Rattle.reo_net_base.specs.declared.mark.Mark.TheVariants.{F, G, R, J}
use Rattle.reo_net_base.specs.Marks.{is_flow}
use Rattle.reo_net_base.specs.Rows.{Rows, mark_in, class_in, distinct_rows, same_flow}

-- Whether the test holds of all numbers below n.
abbrev pub all_below : ℕ → (ℕ → Bool) → Bool
all_below zero test = true
all_below (suc n) test = test 0 && all_below n (λ k. test (suc k))

abbrev pub implied : Bool → Bool → Bool
implied true b = b
implied false b = true

abbrev pub is_jam : Mark → Bool
is_jam F = false
is_jam G = false
is_jam R = false
is_jam J = true

abbrev pub number_of : Mark → ℕ
number_of F = 0
number_of G = 1
number_of R = 2
number_of J = 3

-- Whether each of the first so many ends that flows by one row flows by the other.
abbrev pub flows_within : ℕ → Rows → ℕ → ℕ → Bool
flows_within ends rows row other = all_below ends (λ end. implied (is_flow (mark_in rows row end)) (is_flow (mark_in rows other end)))

abbrev pub equal_flow : ℕ → Rows → ℕ → ℕ → Bool
equal_flow ends rows row other = flows_within ends rows row other && flows_within ends rows other row

-- Whether two rows have the same marks.
abbrev pub equal_rows : ℕ → Rows → ℕ → ℕ → Bool
equal_rows ends rows row other = all_below ends (λ end. number_of (mark_in rows row end) == number_of (mark_in rows other end))

-- How many flow sets there are, and the first row of each.
abbrev pub set_count : Rows → ℕ
set_count rows = length (distinct_rows rows)

abbrev pub first_row : Rows → ℕ → ℕ
first_row rows set = position_or_len (same_flow (slice_index_or (distinct_rows rows) set [])) rows

-- No row jams.
abbrev pub has_no_jam : ℕ → Rows → Bool
has_no_jam ends rows = all_below (length rows) (λ row. all_below ends (λ end. not (is_jam (mark_in rows row end))))

-- No two rows, the jam row counted, have the same marks.
abbrev pub has_no_double : ℕ → Rows → Bool
has_no_double ends rows = all_below (length rows + 1) (λ row. all_below (length rows + 1) (λ other. implied (equal_rows ends rows row other) (row == other)))

-- More flow has a smaller class, and equal flow alone an equal class.
abbrev pub more_is_less : ℕ → Rows → Bool
more_is_less ends rows = all_below (length rows) (λ row. all_below (length rows) (λ other.
    implied (flows_within ends rows row other && not (flows_within ends rows other row)) (nat_lt (class_in rows other) (class_in rows row))))

abbrev pub equal_is_equal : ℕ → Rows → Bool
equal_is_equal ends rows = all_below (length rows) (λ row. all_below (length rows) (λ other.
    implied (equal_flow ends rows row other) (class_in rows row == class_in rows other)
    && implied (class_in rows row == class_in rows other) (flows_within ends rows row other)))

-- The class of a row is the place of its flow set, and the jam row's is how many there are.
abbrev pub has_places : ℕ → Rows → Bool
has_places ends rows = all_below (length rows) (λ row. nat_lt (class_in rows row) (set_count rows) && equal_flow ends rows (first_row rows (class_in rows row)) row)
    && (class_in rows (length rows) == set_count rows)

-- The flow sets stand in row order, each by the first row that has it.
abbrev pub is_in_order : ℕ → Rows → Bool
is_in_order ends rows = all_below (set_count rows) (λ set. all_below set (λ before. nat_lt (first_row rows before) (first_row rows set)))

abbrev pub has_firsts : ℕ → Rows → Bool
has_firsts ends rows = all_below (set_count rows) (λ set. nat_lt (first_row rows set) (length rows) && all_below (first_row rows set) (λ row. not (equal_flow ends rows row (first_row rows set))))

-- The test.
abbrev pub is_table : ℕ → Rows → Bool
is_table ends rows =
    nat_lt (length rows) 1000
    && (has_no_jam ends rows
    && (has_no_double ends rows
    && (more_is_less ends rows
    && (equal_is_equal ends rows
    && (has_places ends rows
    && (is_in_order ends rows && has_firsts ends rows))))))

-- Of each end before so many that flows by the one row flows by the other.
abbrev pub Within : ℕ → Rows → ℕ → ℕ → Type 0
Within ends rows row other = (end : ℕ) → end < ends → mark_in rows row end ≡ F → mark_in rows other end ≡ F

-- What holds of a table that passes.
pub record TableFacts (ends : ℕ) (rows : Rows) : Type 0 where
  pub few : length rows < 1000
  pub no_jam : (row end : ℕ) → row < length rows → end < ends → mark_in rows row end ≢ J
  pub no_double : (row other : ℕ) → row < length rows + 1 → other < length rows + 1
      → ((end : ℕ) → end < ends → mark_in rows row end ≡ mark_in rows other end) → row ≡ other
  pub more : (row other end : ℕ) → row < length rows → other < length rows → Within ends rows row other
      → end < ends → mark_in rows other end ≡ F → mark_in rows row end ≢ F → class_in rows other < class_in rows row
  pub equal : (row other : ℕ) → row < length rows → other < length rows → Within ends rows row other → Within ends rows other row → class_in rows row ≡ class_in rows other
  pub back : (row other : ℕ) → row < length rows → other < length rows → class_in rows row ≡ class_in rows other → Within ends rows row other
  pub place : (row : ℕ) → row < length rows → class_in rows row < set_count rows
  pub same : (row : ℕ) → row < length rows → Within ends rows (first_row rows (class_in rows row)) row × Within ends rows row (first_row rows (class_in rows row))
  pub jam : class_in rows (length rows) ≡ set_count rows
  pub in_order : (before set : ℕ) → before < set → set < set_count rows → first_row rows before < first_row rows set
  pub plain : (set : ℕ) → set < set_count rows → first_row rows set < length rows
  pub first : (set row : ℕ) → set < set_count rows → row < first_row rows set → ¬ (Within ends rows row (first_row rows set) × Within ends rows (first_row rows set) row)

-- From tests to facts, and back.
both : {a b : Bool} → (a && b) ≡ true → (a ≡ true) × (b ≡ true)
both {a = true} h = (refl, h)
both {a = false} h = absurd cc

pair_true : {a b : Bool} → a ≡ true → b ≡ true → (a && b) ≡ true
pair_true p q = rw (p, q) refl

apply : {a b : Bool} → implied a b ≡ true → a ≡ true → b ≡ true
apply {a = true} h p = h
apply {a = false} h p = absurd cc

abstract_over : {a b : Bool} → (a ≡ true → b ≡ true) → implied a b ≡ true
abstract_over {a = true} h = h refl
abstract_over {a = false} h = refl

not_true : {a : Bool} → not a ≡ true → a ≡ false
not_true {a = true} h = absurd cc
not_true {a = false} h = refl

all_at : (n : ℕ) (test : ℕ → Bool) (k : ℕ) → all_below n test ≡ true → k < n → test k ≡ true
all_at zero test k all h = absurd (omega (arith, h))
all_at (suc n) test zero all h = (both all).0
all_at (suc n) test (suc k) all h = all_at n (λ i. test (suc i)) k (both all).1 (omega (arith, h))

all_from : (n : ℕ) (test : ℕ → Bool) → ((k : ℕ) → k < n → test k ≡ true) → all_below n test ≡ true
all_from zero test each = refl
all_from (suc n) test each = pair_true (each 0 (omega arith)) (all_from n (λ i. test (suc i)) (λ k h. each (suc k) (omega (arith, h))))

is_false : (b : Bool) → ¬ (b ≡ true) → b ≡ false
is_false true never = absurd (never refl)
is_false false _ = refl

true_not_false : {a : Bool} → a ≡ true → a ≡ false → ⊥
true_not_false h k = cc

flow_is : (m : Mark) → is_flow m ≡ true → m ≡ F
flow_is F h = refl
flow_is G h = absurd cc
flow_is R h = absurd cc
flow_is J h = absurd cc

is_flow_of : (m : Mark) → m ≡ F → is_flow m ≡ true
is_flow_of m h = rw (h) refl

no_jam_of : (m : Mark) → not (is_jam m) ≡ true → m ≢ J
no_jam_of F h = λ e. cc
no_jam_of G h = λ e. cc
no_jam_of R h = λ e. cc
no_jam_of J h = absurd cc

eq_true : (a b : ℕ) → a ≡ b → (a == b) ≡ true
eq_true a b h = grind (arith, nat_tests)

true_eq : (a b : ℕ) → (a == b) ≡ true → a ≡ b
true_eq a b h = grind (arith, nat_tests)

true_lt : (a b : ℕ) → nat_lt a b ≡ true → a < b
true_lt a b h = grind (arith, nat_tests)

module _ (ends : ℕ) (rows : Rows) where
  within_true : (row other : ℕ) → Within ends rows row other → flows_within ends rows row other ≡ true
  within_true row other within = all_from ends _ (λ end h. abstract_over (λ f. is_flow_of _ (within end h (flow_is _ f))))

  true_within : (row other : ℕ) → flows_within ends rows row other ≡ true → Within ends rows row other
  true_within row other is end h f = flow_is _ (apply (all_at ends _ end is h) (is_flow_of _ f))

  -- An end that flows by the other row alone.
  not_within : (row other end : ℕ) → end < ends → mark_in rows other end ≡ F → mark_in rows row end ≢ F → flows_within ends rows other row ≡ false
  not_within row other end h f rests = is_false _ (λ is. rests (true_within other row is end h f))

  equal_true : (row other : ℕ) → Within ends rows row other → Within ends rows other row → equal_flow ends rows row other ≡ true
  equal_true row other there back = pair_true (within_true row other there) (within_true other row back)

  true_equal : (row other : ℕ) → equal_flow ends rows row other ≡ true → Within ends rows row other × Within ends rows other row
  true_equal row other is = (true_within row other (both is).0, true_within other row (both is).1)

  pairs : (test : ℕ → ℕ → Bool) (n row other : ℕ) → all_below n (λ k. all_below n (test k)) ≡ true → row < n → other < n → test row other ≡ true
  pairs test n row other all h k = all_at n (test row) other (all_at n (λ i. all_below n (test i)) row all h) k

  -- The parts of the test.
  record Passed : Type 0 where
    few : nat_lt (length rows) 1000 ≡ true
    no_jam : has_no_jam ends rows ≡ true
    no_double : has_no_double ends rows ≡ true
    more : more_is_less ends rows ≡ true
    equal : equal_is_equal ends rows ≡ true
    places : has_places ends rows ≡ true
    order : is_in_order ends rows ≡ true
    firsts : has_firsts ends rows ≡ true

  passed : is_table ends rows ≡ true → Passed
  passed is =
      let a = both is in let b = both a.1 in let c = both b.1 in let d = both c.1 in let e = both d.1 in let f = both e.1 in let g = both f.1 in
      record { few = a.0; no_jam = b.0; no_double = c.0; more = d.0; equal = e.0; places = f.0; order = g.0; firsts = g.1 }

  facts : Passed → TableFacts ends rows
  facts p = record {
    few = true_lt _ _ p.few;
    no_jam = λ row end h e. no_jam_of _ (all_at ends _ end (all_at (length rows) _ row p.no_jam h) e);
    no_double = λ row other h k same. true_eq _ _ (apply (pairs (λ i j. implied (equal_rows ends rows i j) (i == j)) (length rows + 1) row other p.no_double h k)
        (all_from ends _ (λ end e. eq_true _ _ (ap number_of (same end e)))));
    more = λ row other end h k within e f rests. true_lt _ _ (apply (pairs _ (length rows) row other p.more h k)
        (pair_true (within_true row other within) (rw (not_within row other end e f rests) refl)));
    equal = λ row other h k there back. true_eq _ _ (apply (both (pairs _ (length rows) row other p.equal h k)).0 (equal_true row other there back));
    back = λ row other h k same. true_within row other (apply (both (pairs _ (length rows) row other p.equal h k)).1 (eq_true _ _ same));
    place = λ row h. true_lt _ _ (both (all_at (length rows) _ row (both p.places).0 h)).0;
    same = λ row h. true_equal _ _ (both (all_at (length rows) _ row (both p.places).0 h)).1;
    jam = true_eq _ _ (both p.places).1;
    in_order = λ before set h k. true_lt _ _ (all_at set _ before (all_at (set_count rows) _ set p.order k) h);
    plain = λ set h. true_lt _ _ (both (all_at (set_count rows) _ set p.firsts h)).0;
    first = λ set row h k equal. true_not_false (equal_true _ _ equal.0 equal.1) (not_true (all_at (first_row rows set) _ row (both (all_at (set_count rows) _ set p.firsts h)).1 k));
  }

  pub table_facts : is_table ends rows ≡ true → TableFacts ends rows
  table_facts is = facts (passed is)
