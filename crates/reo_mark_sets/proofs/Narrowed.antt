-- Narrowing at sides with one end or two.
use Rattle.std.proofs.Common.{◌≡◌, ◌≢◌, ◌↔◌, IsTrue, ℕ, zero, suc, ◌<◌, ◌||◌, Bool, true, List, length, slice_index, set, refl, sym, ap, ◌∙◌, subst, arith}
use Rattle.std.proofs.lemmas.Bool.{and_parts, and_from}
use Rattle.std.proofs.lemmas.List.{length-set}
use Rattle.reo_net_base.specs.declared.mark.Mark.{Mark}
use Rattle.reo_net_base.specs.declared.table.Table.{Table}
use Rattle.reo_net_base.specs.declared.form.Form.TheVariants.{Single, Double}
use Rattle.reo_net_base.specs.Rows.{Rows, mark_in}
use Rattle.reo_net_base.specs.Tables.{rows_of}
use Rattle.reo_mark_sets.specs.declared.marks.PlainMarks.{PlainMarks}
use Rattle.reo_mark_sets.specs.PlainMarks.{has, marks_at, open_at}
use Rattle.reo_mark_sets.specs.Listed.{fits_one, fits_two, used_at}
use Rattle.reo_mark_sets.specs.Standing.{ArePlaces, Works, IsNarrowed, SomeWorks}
use Rattle.reo_mark_sets.proofs.Putting.{marks_here, marks_other, contains_at}
use Rattle.reo_mark_sets.proofs.Rows.{row_in, Uses, used_exact, some_has, has_some}

abbrev first : List ℕ → ℕ
first places = slice_index places 0

abbrev second : List ℕ → ℕ
second places = slice_index places 1

module _ (table : Table) (places : List ℕ) (sets : List PlainMarks) where
  abbrev rows : Rows
  rows = rows_of table

  -- One end.
  module _ (width : length places ≡ 1) (are : ArePlaces (length sets) places) where
    abbrev a : PlainMarks
    a = open_at sets (first places)

    one_works : (r : ℕ) → r < length rows → fits_one a (row_in rows r) ≡ true → Works (Single table) places sets r
    one_works r lt fit = record {
      plain = omega arith;
      each = λ o o_in. let e : o ≡ 0 = omega (arith, width, o_in) in subst (λ (p : ℕ). has (open_at sets (slice_index places p)) (mark_in rows r 0) ≡ true) (sym e) fit;
    }

    works_one : (r : ℕ) → Works (Single table) places sets r → (r < length rows) × (fits_one a (row_in rows r) ≡ true)
    works_one r w = (omega (arith, w.plain), w.each 0 (omega (arith, width)))

    one_exact : (m : Mark) → (has (used_at rows (fits_one a) 0) m ≡ true) ↔ Uses rows (fits_one a) 0 m
    one_exact m = used_exact rows (fits_one a) 0 a (λ r h. h) m

    pub single_narrowed : (new : List PlainMarks) → new ≡ set sets (first places) (used_at rows (fits_one a) 0) → IsNarrowed (Single table) places sets new
    single_narrowed new is = record {
      elsewhere = record {
        one_each = ap (λ (s : List PlainMarks). length s) is ∙ length-set sets (first places) (used_at rows (fits_one a) 0);
        others = λ x none. ap (λ (s : List PlainMarks). marks_at s x) is ∙ marks_other sets (first places) x (used_at rows (fits_one a) 0) (λ same. none (contains_at places 0 x (omega (arith, width)) (sym same)));
      };
      exact = λ o m o_in.
          let e : o ≡ 0 = omega (arith, width, o_in) in
          let here : marks_at new (slice_index places o) ≡ used_at rows (fits_one a) 0 =
          ap (λ (p : ℕ). marks_at new (slice_index places p)) e ∙ ap (λ (s : List PlainMarks). marks_at s (first places)) is ∙ marks_here sets (first places) (used_at rows (fits_one a) 0) (are.in_range 0 (omega (arith, width))) in (
            λ h. let u = (one_exact m).0 (subst (λ (x : PlainMarks). has x m ≡ true) here h) in (u.0, one_works u.0 u.1 u.2, u.3),
            λ w. subst (λ (x : PlainMarks). has x m ≡ true) (sym here) ((one_exact m).1 (w.0, (works_one w.0 w.1).0, (works_one w.0 w.1).1, w.2)),
          );
    }

    pub single_some : (b : Bool) (marks : PlainMarks) → marks ≡ used_at rows (fits_one a) 0 → b ≡ (marks.flow || (marks.given || marks.required)) → IsTrue b ↔ SomeWorks (Single table) places sets
    single_some b marks are_used same = (
      λ t. let s = some_has marks (sym same ∙ t) in let u = (one_exact s.0).0 (subst (λ (x : PlainMarks). has x s.0 ≡ true) are_used s.1) in (u.0, one_works u.0 u.1 u.2),
      λ w. same ∙ has_some marks (mark_in rows w.0 0) (subst (λ (x : PlainMarks). has x (mark_in rows w.0 0) ≡ true) (sym are_used) ((one_exact (mark_in rows w.0 0)).1 (w.0, (works_one w.0 w.1).0, (works_one w.0 w.1).1, refl))),
    )

  -- Two ends.
  module _ (width : length places ≡ 2) (are : ArePlaces (length sets) places) where
    abbrev c : PlainMarks
    c = open_at sets (first places)

    abbrev d : PlainMarks
    d = open_at sets (second places)

    two_works : (r : ℕ) → r < length rows → fits_two c d (row_in rows r) ≡ true → Works (Double table) places sets r
    two_works r lt fit =
        let both = and_parts (has c (mark_in rows r 0)) (has d (mark_in rows r 1)) fit in
        record { plain = omega arith; each = λ o o_in. at o (omega (arith, width, o_in)) both.0 both.1 }
      where
        at : (o : ℕ) → o < 2 → has c (mark_in rows r 0) ≡ true → has d (mark_in rows r 1) ≡ true → has (open_at sets (slice_index places o)) (mark_in rows r o) ≡ true
        at zero o_in x y = x
        at (suc zero) o_in x y = y
        at (suc (suc o)) o_in x y = absurd (omega arith)

    works_two : (r : ℕ) → Works (Double table) places sets r → (r < length rows) × (fits_two c d (row_in rows r) ≡ true)
    works_two r w = (omega (arith, w.plain), and_from (has c (mark_in rows r 0)) (has d (mark_in rows r 1)) (w.each 0 (omega (arith, width))) (w.each 1 (omega (arith, width))))

    first_exact : (m : Mark) → (has (used_at rows (fits_two c d) 0) m ≡ true) ↔ Uses rows (fits_two c d) 0 m
    first_exact m = used_exact rows (fits_two c d) 0 c (λ r h. (and_parts (has c (mark_in rows r 0)) (has d (mark_in rows r 1)) h).0) m

    second_exact : (m : Mark) → (has (used_at rows (fits_two c d) 1) m ≡ true) ↔ Uses rows (fits_two c d) 1 m
    second_exact m = used_exact rows (fits_two c d) 1 d (λ r h. (and_parts (has c (mark_in rows r 0)) (has d (mark_in rows r 1)) h).1) m

    abbrev used : ℕ → PlainMarks
    used end = used_at rows (fits_two c d) end

    apart : first places ≢ second places
    apart same = let e : 0 ≡ 1 = are.once 0 1 (omega (arith, width)) (omega (arith, width)) same in omega (arith, e)

    module _ (new : List PlainMarks) (is : new ≡ set (set sets (first places) (used 0)) (second places) (used 1)) where
      at_first : marks_at new (first places) ≡ used 0
      at_first =
          ap (λ (s : List PlainMarks). marks_at s (first places)) is
          ∙ marks_other (set sets (first places) (used 0)) (second places) (first places) (used 1) apart
          ∙ marks_here sets (first places) (used 0) (are.in_range 0 (omega (arith, width)))

      at_second : marks_at new (second places) ≡ used 1
      at_second =
          ap (λ (s : List PlainMarks). marks_at s (second places)) is
          ∙ marks_here (set sets (first places) (used 0)) (second places) (used 1) (omega (arith, length-set sets (first places) (used 0), are.in_range 1 (omega (arith, width))))

      exact_at : (o : ℕ) (m : Mark) → o < 2 → (has (marks_at new (slice_index places o)) m ≡ true) ↔ ((row : ℕ) × Works (Double table) places sets row × (mark_in rows row o ≡ m))
      exact_at zero m o_in = (
        λ h. let u = (first_exact m).0 (subst (λ (x : PlainMarks). has x m ≡ true) at_first h) in (u.0, two_works u.0 u.1 u.2, u.3),
        λ w. subst (λ (x : PlainMarks). has x m ≡ true) (sym at_first) ((first_exact m).1 (w.0, (works_two w.0 w.1).0, (works_two w.0 w.1).1, w.2)),
      )
      exact_at (suc zero) m o_in = (
        λ h. let u = (second_exact m).0 (subst (λ (x : PlainMarks). has x m ≡ true) at_second h) in (u.0, two_works u.0 u.1 u.2, u.3),
        λ w. subst (λ (x : PlainMarks). has x m ≡ true) (sym at_second) ((second_exact m).1 (w.0, (works_two w.0 w.1).0, (works_two w.0 w.1).1, w.2)),
      )
      exact_at (suc (suc o)) m o_in = absurd (omega arith)

      pub double_narrowed : IsNarrowed (Double table) places sets new
      double_narrowed = record {
        elsewhere = record {
          one_each = ap (λ (s : List PlainMarks). length s) is ∙ length-set (set sets (first places) (used 0)) (second places) (used 1) ∙ length-set sets (first places) (used 0);
          others = λ x none.
              ap (λ (s : List PlainMarks). marks_at s x) is
              ∙ marks_other (set sets (first places) (used 0)) (second places) x (used 1) (λ same. none (contains_at places 1 x (omega (arith, width)) (sym same)))
              ∙ marks_other sets (first places) x (used 0) (λ same. none (contains_at places 0 x (omega (arith, width)) (sym same)));
        };
        exact = λ o m o_in. exact_at o m (omega (arith, width, o_in));
      }

    pub double_some : (b : Bool) (marks : PlainMarks) → marks ≡ used 0 → b ≡ (marks.flow || (marks.given || marks.required)) → IsTrue b ↔ SomeWorks (Double table) places sets
    double_some b marks are_used same = (
      λ t. let s = some_has marks (sym same ∙ t) in let u = (first_exact s.0).0 (subst (λ (x : PlainMarks). has x s.0 ≡ true) are_used s.1) in (u.0, two_works u.0 u.1 u.2),
      λ w. same ∙ has_some marks (mark_in rows w.0 0) (subst (λ (x : PlainMarks). has x (mark_in rows w.0 0) ≡ true) (sym are_used) ((first_exact (mark_in rows w.0 0)).1 (w.0, (works_two w.0 w.1).0, (works_two w.0 w.1).1, refl))),
    )
