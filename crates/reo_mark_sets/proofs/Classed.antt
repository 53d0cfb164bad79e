-- Rows of the least class.
use Rattle.std.proofs.Common.{◌≡◌, ◌≢◌, ◌⊎◌, inl, inr, ◌↔◌, ℕ, zero, suc, ◌+◌, ◌-◌, ◌%◌, ◌<◌, ◌≤◌, ◌&&◌, ◌||◌, not, Bool, true, false, cond, Option, Some, None, List, [], ◌∷◌, length, slice_index, set, refl, sym, ap, ◌∙◌, subst, arith, length-append}
use Rattle.std.specs.Prelude.{nat_lt, nat_le, map, MatchOption}
use Rattle.std.specs.Bool.{◌==◌}
use Rattle.std.proofs.Math.Nat.{add-mod_left, mod-eq_of_lt}
use Rattle.std.proofs.lemmas.Nat.{mod_below}
use Rattle.std.proofs.lemmas.Bool.{cases_eq, and_parts, and_from, eqb-true, cases_lt, lt-ltb, le-ltb, eq-eqb, ne_eqb}
use Rattle.std.proofs.lemmas.Bool.Decides.{nat_tests}
use Rattle.std.proofs.lemmas.List.{length-set, length-map}
use Rattle.std.specs.List.{position_or_len}
use Rattle.reo_values.proofs.Truths.{if_then}
use Rattle.reo_net_base.specs.declared.mark.Mark.{Mark}
use Rattle.reo_net_base.specs.declared.mark.Mark.TheVariants.{F, G, R, J}
use Rattle.reo_net_base.specs.declared.table.Table.{Table}
use Rattle.reo_net_base.specs.declared.branches.Branches.{Branches}
use Rattle.reo_net_base.specs.declared.form.Form.{Form}
use Rattle.reo_net_base.specs.declared.form.Form.TheVariants.{Single, Double, Merging, Replicating}
use Rattle.reo_net_base.specs.Branching.{beginning, merger_class, replicator_class}
use Rattle.reo_net_base.specs.Forms.{mark_by}
use Rattle.reo_net_base.specs.Rows.{Rows, mark_in, class_in, classes_of, distinct_rows, same_flow}
use Rattle.reo_net_base.specs.Tables.{rows_of}
use Rattle.reo_mark_sets.specs.declared.marks.PlainMarks.{PlainMarks}
use Rattle.reo_mark_sets.specs.declared.stars.Star.TheVariants.{Merger, Replicator}
use Rattle.reo_mark_sets.specs.PlainMarks.{has, marks_at, both, just, are_within}
use Rattle.reo_mark_sets.specs.Listed.{fits_one, fits_two, is_taken, are_taken}
use Rattle.reo_mark_sets.specs.Standing.{ArePlaces, Stands, AreElsewhere, AreFewer, IsClassed}
use Rattle.reo_mark_sets.specs.Stars.{Kind, IsKind, kind_mark}
use Rattle.reo_mark_sets.specs.Stars.Kind.{apart, rest, other}
use Rattle.reo_mark_sets.specs.Tallies.{IsFirstBetween, IsFirstInTurn}
use Rattle.reo_mark_sets.proofs.Formed.{HasKinds, merger_row, merger_kinds, replicator_row, replicator_kinds}
use Rattle.reo_mark_sets.proofs.Putting.{marks_here, marks_other, contains_at}
use Rattle.reo_mark_sets.proofs.Rows.{row_in}
use Rattle.reo_mark_sets.proofs.Starring.{center_of, center_is, spoke_is}

-- Marks of both.
both_has : (a b : PlainMarks) (m : Mark) → has (both a b) m ≡ true → (has a m ≡ true) × (has b m ≡ true)
both_has a b F h = and_parts a.flow b.flow h
both_has a b G h = and_parts a.given b.given h
both_has a b R h = and_parts a.required b.required h
both_has a b J h = cc

has_both : (a b : PlainMarks) (m : Mark) → has a m ≡ true → has b m ≡ true → has (both a b) m ≡ true
has_both a b F x y = and_from a.flow b.flow x y
has_both a b G x y = and_from a.given b.given x y
has_both a b R x y = and_from a.required b.required x y
has_both a b J x y = cc

pub within_has : (a b : PlainMarks) → are_within a b ≡ true → (m : Mark) → has a m ≡ true → has b m ≡ true
within_has a b h m =
    let one = and_parts (not a.flow || b.flow) ((not a.given || b.given) && (not a.required || b.required)) h in
    let two = and_parts (not a.given || b.given) (not a.required || b.required) one.1 in
    by_mark m one.0 two.0 two.1
  where
    by_mark : (m : Mark) → (not a.flow || b.flow) ≡ true → (not a.given || b.given) ≡ true → (not a.required || b.required) ≡ true → has a m ≡ true → has b m ≡ true
    by_mark F f g r e = if_then a.flow b.flow f e
    by_mark G f g r e = if_then a.given b.given g e
    by_mark R f g r e = if_then a.required b.required r e
    by_mark J f g r e = cc

-- One mark alone.
pub just_has : (mark m : Mark) → has (just mark) m ≡ true → mark ≡ m
just_has F F h = refl
just_has F G h = cc
just_has F R h = cc
just_has F J h = cc
just_has G F h = cc
just_has G G h = refl
just_has G R h = cc
just_has G J h = cc
just_has R F h = cc
just_has R G h = cc
just_has R R h = refl
just_has R J h = cc
just_has J F h = cc
just_has J G h = cc
just_has J R h = cc
just_has J J h = cc

pub has_just : (marks : PlainMarks) (mark m : Mark) → has marks m ≡ true → mark ≡ m → has (just mark) m ≡ true
has_just marks mark m real e = subst (λ (x : Mark). has (just mark) x ≡ true) e (itself mark (subst (λ (x : Mark). has marks x ≡ true) (sym e) real))
  where
    itself : (x : Mark) → has marks x ≡ true → has (just x) x ≡ true
    itself F h = refl
    itself G h = refl
    itself R h = refl
    itself J h = cc

-- A place is restricted.
module _ (sets new : List PlainMarks) (place : ℕ) (allowed : PlainMarks) (lt : place < length sets) (is : new ≡ set sets place (both (marks_at sets place) allowed)) where
  pub restrict_here : marks_at new place ≡ both (marks_at sets place) allowed
  restrict_here = ap (λ (s : List PlainMarks). marks_at s place) is ∙ marks_here sets place (both (marks_at sets place) allowed) lt

  pub restrict_other : (x : ℕ) → x ≢ place → marks_at new x ≡ marks_at sets x
  restrict_other x ne = ap (λ (s : List PlainMarks). marks_at s x) is ∙ marks_other sets place x (both (marks_at sets place) allowed) ne

  pub restrict_count : length new ≡ length sets
  restrict_count = ap (λ (s : List PlainMarks). length s) is ∙ length-set sets place (both (marks_at sets place) allowed)

  pub restrict_exact : (m : Mark) → (has (marks_at new place) m ≡ true) ↔ ((has (marks_at sets place) m ≡ true) × (has allowed m ≡ true))
  restrict_exact m = (
    λ h. both_has (marks_at sets place) allowed m (subst (λ (x : PlainMarks). has x m ≡ true) restrict_here h),
    λ h. subst (λ (x : PlainMarks). has x m ≡ true) (sym restrict_here) (has_both (marks_at sets place) allowed m h.0 h.1),
  )

  pub restrict_fewer : AreFewer sets new
  restrict_fewer x m h = elim (cases_eq x place) [
    | inl e ↦ subst (λ (y : ℕ). has (marks_at sets y) m ≡ true) (sym e) ((restrict_exact m).0 (subst (λ (y : ℕ). has (marks_at new y) m ≡ true) e h)).0
    | inr ne ↦ subst (λ (y : PlainMarks). has y m ≡ true) (restrict_other x ne) h
  ]

  module _ (form : Form) (places : List ℕ) (o : ℕ) (o_in : o < length places) (here : slice_index places o ≡ place)
      (once : (p q : ℕ) → p < length places → q < length places → slice_index places p ≡ slice_index places q → p ≡ q) where
    pub restrict_elsewhere : AreElsewhere places sets new
    restrict_elsewhere = record {
      one_each = restrict_count;
      others = λ x none. restrict_other x (λ e. none (contains_at places o x o_in (here ∙ sym e)));
    }

    pub restrict_stands : (row : ℕ) → Stands form places new row → Stands form places sets row × (has allowed (mark_by form row o) ≡ true)
    restrict_stands row s = (
      record { plain = s.plain; each = λ p p_in. restrict_fewer (slice_index places p) (mark_by form row p) (s.each p p_in) },
      ((restrict_exact (mark_by form row o)).0 (subst (λ (y : ℕ). has (marks_at new y) (mark_by form row o) ≡ true) here (s.each o o_in))).1,
    )

    pub stands_restrict : (row : ℕ) → Stands form places sets row → has allowed (mark_by form row o) ≡ true → Stands form places new row
    stands_restrict row s h = record {
      plain = s.plain;
      each = λ p p_in. elim (cases_eq p o) [
        | inl e ↦
            let at : slice_index places p ≡ place = ap (slice_index places) e ∙ here in
            subst (λ (y : ℕ). has (marks_at new y) (mark_by form row p) ≡ true) (sym at)
            ((restrict_exact (mark_by form row p)).1 (subst (λ (y : ℕ). has (marks_at sets y) (mark_by form row p) ≡ true) at (s.each p p_in), subst (λ (q : ℕ). has allowed (mark_by form row q) ≡ true) (sym e) h))
        | inr ne ↦
            subst (λ (y : PlainMarks). has y (mark_by form row p) ≡ true) (sym (restrict_other (slice_index places p) (λ same. ne (once p o p_in o_in (same ∙ sym here))))) (s.each p p_in)
      ];
    }

pub elsewhere_after : (places : List ℕ) (a b c : List PlainMarks) → AreElsewhere places a b → AreElsewhere places b c → AreElsewhere places a c
elsewhere_after places a b c x y = record { one_each = y.one_each ∙ x.one_each; others = λ p none. y.others p none ∙ x.others p none }

pub fewer_after : (a b c : List PlainMarks) → AreFewer a b → AreFewer b c → AreFewer a c
fewer_after a b c x y = λ p m h. x p m (y p m h)

-- Listed rows, by the test that each passes.
module _ (n : ℕ) (old new : List Mark → Bool) where
  pub taken_at : (rows : Rows) (numbers : List ℕ) → are_taken n rows numbers old new ≡ true → length rows ≤ length numbers → (r : ℕ) → r < length rows
      → is_taken n (slice_index numbers r) (old (row_in rows r)) (new (row_in rows r)) ≡ true
  taken_at [] numbers h le r lt = absurd (omega arith)
  taken_at (row ∷ rows) [] h le r lt = absurd (omega arith)
  taken_at (row ∷ rows) (k ∷ ks) h le zero lt = (and_parts (is_taken n k (old row) (new row)) (are_taken n rows ks old new) h).0
  taken_at (row ∷ rows) (k ∷ ks) h le (suc r) lt = taken_at rows ks (and_parts (is_taken n k (old row) (new row)) (are_taken n rows ks old new) h).1 (omega arith) r (omega arith)

module _ (least number : ℕ) (old new : Bool) (h : is_taken least number old new ≡ true) where
  parts : (((not old || nat_le least number) && (not new || (number == least))) ≡ true) × ((not (old && (number == least)) || new) ≡ true)
  parts = and_parts ((not old || nat_le least number) && (not new || (number == least))) (not (old && (number == least)) || new) h

  more : ((not old || nat_le least number) ≡ true) × ((not new || (number == least)) ≡ true)
  more = and_parts (not old || nat_le least number) (not new || (number == least)) parts.0

  pub taken_least : old ≡ true → least ≤ number
  taken_least e = let le : nat_le least number ≡ true = if_then old (nat_le least number) more.0 e in grind (arith, nat_tests)

  pub taken_only : new ≡ true → number ≡ least
  taken_only e = eqb-true number least (if_then new (number == least) more.1 e)

  pub taken_stay : old ≡ true → number ≡ least → new ≡ true
  taken_stay e same = if_then (old && (number == least)) new parts.1 (and_from old (number == least) e (eq-eqb number least same))

classes_count : (rows : Rows) → length rows ≤ length (classes_of rows)
classes_count rows =
    let f : List Mark → ℕ = λ row. position_or_len (same_flow row) (distinct_rows rows) in
    omega (arith, length-append (map f rows) (length (distinct_rows rows) ∷ []), length-map rows f)

-- A side with one end.
module _ (table : Table) (places : List ℕ) (width : length places ≡ 1) where
  pub stands_one : (sets : List PlainMarks) (r : ℕ) → Stands (Single table) places sets r → (r < length (rows_of table)) × (fits_one (marks_at sets (slice_index places 0)) (row_in (rows_of table) r) ≡ true)
  stands_one sets r s = (omega (arith, s.plain), s.each 0 (omega (arith, width)))

  one_stands : (sets : List PlainMarks) (r : ℕ) → r < length (rows_of table) → fits_one (marks_at sets (slice_index places 0)) (row_in (rows_of table) r) ≡ true → Stands (Single table) places sets r
  one_stands sets r lt fit = record {
    plain = omega arith;
    each = λ o o_in. let e : o ≡ 0 = omega (arith, width, o_in) in subst (λ (p : ℕ). has (marks_at sets (slice_index places p)) (mark_in (rows_of table) r 0) ≡ true) (sym e) fit;
  }

  pub single_classed : (sets new : List PlainMarks) (a marks : PlainMarks) (n : ℕ) → ArePlaces (length sets) places → a ≡ marks_at sets (slice_index places 0) → new ≡ set sets (slice_index places 0) marks
      → are_taken n (rows_of table) (classes_of (rows_of table)) (fits_one a) (fits_one marks) ≡ true → are_within marks a ≡ true → (turn : ℕ) → IsClassed (Single table) places turn sets new
  single_classed sets new a marks n are a_is is taken within turn =
      let place : ℕ = slice_index places 0 in
      let here : marks_at new place ≡ marks = ap (λ (s : List PlainMarks). marks_at s place) is ∙ marks_here sets place marks (are.in_range 0 (omega (arith, width))) in
      let there : (x : ℕ) → x ≢ place → marks_at new x ≡ marks_at sets x = λ x ne. ap (λ (s : List PlainMarks). marks_at s x) is ∙ marks_other sets place x marks ne in
      let at = λ (r : ℕ) (lt : r < length (rows_of table)). taken_at n (fits_one a) (fits_one marks) (rows_of table) (classes_of (rows_of table)) taken (classes_count (rows_of table)) r lt in
      let fits_old = λ (r : ℕ) (h : fits_one (marks_at sets place) (row_in (rows_of table) r) ≡ true). subst (λ (m : PlainMarks). fits_one m (row_in (rows_of table) r) ≡ true) (sym a_is) h in
      let fits_new = λ (r : ℕ) (h : fits_one (marks_at new place) (row_in (rows_of table) r) ≡ true). subst (λ (m : PlainMarks). fits_one m (row_in (rows_of table) r) ≡ true) here h in
      record {
        elsewhere = record {
          one_each = ap (λ (s : List PlainMarks). length s) is ∙ length-set sets place marks;
          others = λ x none. there x (λ e. none (contains_at places 0 x (omega (arith, width)) (sym e)));
        };
        fewer = λ x m h. elim (cases_eq x place) [
          | inl e ↦ subst (λ (y : ℕ). has (marks_at sets y) m ≡ true) (sym e)
              (subst (λ (y : PlainMarks). has y m ≡ true) a_is (within_has marks a within m (subst (λ (y : PlainMarks). has y m ≡ true) (ap (marks_at new) e ∙ here) h)))
          | inr ne ↦ subst (λ (y : PlainMarks). has y m ≡ true) (there x ne) h
        ];
        class = n;
        least = λ r s. let t = stands_one sets r s in taken_least n (class_in (rows_of table) r) (fits_one a (row_in (rows_of table) r)) (fits_one marks (row_in (rows_of table) r)) (at r t.0) (fits_old r t.1);
        stay = λ r s same.
            let t = stands_one sets r s in
            one_stands new r t.0 (subst (λ (m : PlainMarks). fits_one m (row_in (rows_of table) r) ≡ true) (sym here)
            (taken_stay n (class_in (rows_of table) r) (fits_one a (row_in (rows_of table) r)) (fits_one marks (row_in (rows_of table) r)) (at r t.0) (fits_old r t.1) same));
        only = λ r s. let t = stands_one new r s in taken_only n (class_in (rows_of table) r) (fits_one a (row_in (rows_of table) r)) (fits_one marks (row_in (rows_of table) r)) (at r t.0) (fits_new r t.1);
      }

-- A side with two.
module _ (table : Table) (places : List ℕ) (width : length places ≡ 2) where
  abbrev fit : List PlainMarks → ℕ → Bool
  fit sets r = fits_two (marks_at sets (slice_index places 0)) (marks_at sets (slice_index places 1)) (row_in (rows_of table) r)

  pub stands_two : (sets : List PlainMarks) (r : ℕ) → Stands (Double table) places sets r → (r < length (rows_of table)) × (fit sets r ≡ true)
  stands_two sets r s = (
    omega (arith, s.plain),
    and_from (has (marks_at sets (slice_index places 0)) (mark_in (rows_of table) r 0)) (has (marks_at sets (slice_index places 1)) (mark_in (rows_of table) r 1)) (s.each 0 (omega (arith, width))) (s.each 1 (omega (arith, width))),
  )

  two_stands : (sets : List PlainMarks) (r : ℕ) → r < length (rows_of table) → fit sets r ≡ true → Stands (Double table) places sets r
  two_stands sets r lt h =
      let pair = and_parts (has (marks_at sets (slice_index places 0)) (mark_in (rows_of table) r 0)) (has (marks_at sets (slice_index places 1)) (mark_in (rows_of table) r 1)) h in
      record { plain = omega arith; each = λ o o_in. at o (omega (arith, width, o_in)) pair.0 pair.1 }
    where
      at : (o : ℕ) → o < 2 → has (marks_at sets (slice_index places 0)) (mark_in (rows_of table) r 0) ≡ true → has (marks_at sets (slice_index places 1)) (mark_in (rows_of table) r 1) ≡ true
          → has (marks_at sets (slice_index places o)) (mark_in (rows_of table) r o) ≡ true
      at zero o_in x y = x
      at (suc zero) o_in x y = y
      at (suc (suc o)) o_in x y = absurd (omega arith)

  module _ (sets new : List PlainMarks) (are : ArePlaces (length sets) places) (a b p q : PlainMarks) (a_is : a ≡ marks_at sets (slice_index places 0)) (b_is : b ≡ marks_at sets (slice_index places 1))
      (is : new ≡ set (set sets (slice_index places 0) p) (slice_index places 1) q) where
    one : ℕ
    one = slice_index places 0

    two : ℕ
    two = slice_index places 1

    at_one : marks_at new (slice_index places 0) ≡ p
    at_one =
        ap (λ (s : List PlainMarks). marks_at s (slice_index places 0)) is
        ∙ marks_other (set sets (slice_index places 0) p) (slice_index places 1) (slice_index places 0) q (λ same. let e : 0 ≡ 1 = are.once 0 1 (omega (arith, width)) (omega (arith, width)) same in omega (arith, e))
        ∙ marks_here sets (slice_index places 0) p (are.in_range 0 (omega (arith, width)))

    at_two : marks_at new (slice_index places 1) ≡ q
    at_two =
        ap (λ (s : List PlainMarks). marks_at s (slice_index places 1)) is
        ∙ marks_here (set sets (slice_index places 0) p) (slice_index places 1) q (omega (arith, length-set sets (slice_index places 0) p, are.in_range 1 (omega (arith, width))))

    at_other : (x : ℕ) → x ≢ slice_index places 0 → x ≢ slice_index places 1 → marks_at new x ≡ marks_at sets x
    at_other x ne nf =
        ap (λ (s : List PlainMarks). marks_at s x) is ∙ marks_other (set sets (slice_index places 0) p) (slice_index places 1) x q nf ∙ marks_other sets (slice_index places 0) x p ne

    fit_old : (r : ℕ) → fit sets r ≡ fits_two a b (row_in (rows_of table) r)
    fit_old r i = fits_two (sym a_is i) (sym b_is i) (row_in (rows_of table) r)

    fit_new : (r : ℕ) → fit new r ≡ fits_two p q (row_in (rows_of table) r)
    fit_new r i = fits_two (at_one i) (at_two i) (row_in (rows_of table) r)

    pub double_classed : (n : ℕ) → are_taken n (rows_of table) (classes_of (rows_of table)) (fits_two a b) (fits_two p q) ≡ true → are_within p a ≡ true → are_within q b ≡ true
        → (turn : ℕ) → IsClassed (Double table) places turn sets new
    double_classed n taken p_in q_in turn =
        let at = λ (r : ℕ) (lt : r < length (rows_of table)). taken_at n (fits_two a b) (fits_two p q) (rows_of table) (classes_of (rows_of table)) taken (classes_count (rows_of table)) r lt in
        record {
          elsewhere = record {
            one_each = ap (λ (s : List PlainMarks). length s) is ∙ length-set (set sets (slice_index places 0) p) (slice_index places 1) q ∙ length-set sets (slice_index places 0) p;
            others = λ x none. at_other x (λ e. none (contains_at places 0 x (omega (arith, width)) (sym e))) (λ e. none (contains_at places 1 x (omega (arith, width)) (sym e)));
          };
          fewer = λ x m h. elim (cases_eq x (slice_index places 0)) [
            | inl e ↦ subst (λ (y : ℕ). has (marks_at sets y) m ≡ true) (sym e)
                (subst (λ (y : PlainMarks). has y m ≡ true) a_is (within_has p a p_in m (subst (λ (y : PlainMarks). has y m ≡ true) (ap (marks_at new) e ∙ at_one) h)))
            | inr ne ↦ elim (cases_eq x (slice_index places 1)) [
              | inl e ↦ subst (λ (y : ℕ). has (marks_at sets y) m ≡ true) (sym e)
                  (subst (λ (y : PlainMarks). has y m ≡ true) b_is (within_has q b q_in m (subst (λ (y : PlainMarks). has y m ≡ true) (ap (marks_at new) e ∙ at_two) h)))
              | inr nf ↦ subst (λ (y : PlainMarks). has y m ≡ true) (at_other x ne nf) h
            ]
          ];
          class = n;
          least = λ r s. let t = stands_two sets r s in taken_least n (class_in (rows_of table) r) (fits_two a b (row_in (rows_of table) r)) (fits_two p q (row_in (rows_of table) r)) (at r t.0) (sym (fit_old r) ∙ t.1);
          stay = λ r s same.
              let t = stands_two sets r s in
              two_stands new r t.0 (fit_new r ∙ taken_stay n (class_in (rows_of table) r) (fits_two a b (row_in (rows_of table) r)) (fits_two p q (row_in (rows_of table) r)) (at r t.0) (sym (fit_old r) ∙ t.1) same);
          only = λ r s. let t = stands_two new r s in taken_only n (class_in (rows_of table) r) (fits_two a b (row_in (rows_of table) r)) (fits_two p q (row_in (rows_of table) r)) (at r t.0) (sym (fit_new r) ∙ t.1);
        }

-- The classes of a merger: its inputs in turn.
module _ (n turn : ℕ) (some : 0 < n) where
  abbrev begins : ℕ
  begins = beginning n turn

  begins_in : begins < n
  begins_in = mod_below (turn - 1) n some

  class_flows : (x : ℕ) → x < n → merger_class n x turn ≡ (x + n - begins) % n
  class_flows x lt = ap (λ (t : Bool). cond t ((x + n - begins) % n) (cond (nat_lt x (n + 2)) n (n + 1))) (lt-ltb x n lt)

  class_after : (x : ℕ) → x < n → begins ≤ x → merger_class n x turn ≡ x - begins
  class_after x lt le =
      let split : x + n - begins ≡ n + (x - begins) = omega arith in
      class_flows x lt ∙ ap (λ (k : ℕ). k % n) split ∙ add-mod_left n (x - begins) ∙ mod-eq_of_lt (omega arith)

  class_before : (x : ℕ) → x < n → x < begins → merger_class n x turn ≡ x + n - begins
  class_before x lt less = class_flows x lt ∙ mod-eq_of_lt (omega (arith, begins_in))

  pub class_low : (x : ℕ) → x < n → merger_class n x turn < n
  class_low x lt = subst (λ (k : ℕ). k < n) (sym (class_flows x lt)) (mod_below (x + n - begins) n some)

  pub class_still : (x : ℕ) → n ≤ x → x < n + 2 → merger_class n x turn ≡ n
  class_still x le lt = λ i. cond (le-ltb x n le i) ((x + n - begins) % n) (cond (lt-ltb x (n + 2) lt i) n (n + 1))

  pub class_one : (x y : ℕ) → x < n → y < n → merger_class n x turn ≡ merger_class n y turn → x ≡ y
  class_one x y x_in y_in same = elim (cases_lt x begins) [
    | inl x_less ↦ elim (cases_lt y begins) [
      | inl y_less ↦ omega (arith, class_before x x_in x_less, class_before y y_in y_less, same, begins_in)
      | inr y_le ↦ absurd (omega (arith, class_before x x_in x_less, class_after y y_in y_le, same, begins_in))
    ]
    | inr x_le ↦ elim (cases_lt y begins) [
      | inl y_less ↦ absurd (omega (arith, class_after x x_in x_le, class_before y y_in y_less, same, begins_in))
      | inr y_le ↦ omega (arith, class_after x x_in x_le, class_after y y_in y_le, same)
    ]
  ]

  module _ (test : ℕ → Bool) where
    pub turn_after : (i : ℕ) → IsFirstBetween test begins n i → IsFirstInTurn test n turn i
    turn_after i found = record {
      in_range = found.in_range;
      here = found.here;
      first = λ e e_in holds. elim (cases_lt e begins) [
        | inl less ↦ omega (arith, class_after i found.in_range found.after, class_before e e_in less, found.in_range)
        | inr le ↦ elim (cases_lt e i) [
          | inl early ↦ let fails : test e ≡ false = found.first e le early in absurd (cc)
          | inr late ↦ omega (arith, class_after i found.in_range found.after, class_after e e_in le, late)
        ]
      ];
    }

    turn_before : ((o : ℕ) → begins ≤ o → o < n → test o ≡ false) → (i : ℕ) → IsFirstBetween test 0 begins i → IsFirstInTurn test n turn i
    turn_before none i found =
        let i_in : i < n = omega (arith, found.in_range, begins_in) in
        record {
          in_range = i_in;
          here = found.here;
          first = λ e e_in holds. elim (cases_lt e begins) [
            | inl less ↦ elim (cases_lt e i) [
              | inl early ↦ let fails : test e ≡ false = found.first e (omega arith) early in absurd (cc)
              | inr late ↦ omega (arith, class_before i i_in found.in_range, class_before e e_in less, late)
            ]
            | inr le ↦ let fails : test e ≡ false = none e le e_in in absurd (cc)
          ];
        }

    pub turn_either : (r : Option ℕ) → ((o : ℕ) → begins ≤ o → o < n → test o ≡ false) → MatchOption r ((o : ℕ) → 0 ≤ o → o < begins → test o ≡ false) (IsFirstBetween test 0 begins)
        → MatchOption r ((o : ℕ) → o < n → test o ≡ false) (IsFirstInTurn test n turn)
    turn_either None none found = λ o lt. elim (cases_lt o begins) [ inl less ↦ found o (omega arith) less | inr le ↦ none o le lt ]
    turn_either (Some i) none found = turn_before none i found

-- The rows of a merger that stand, by their kinds.
module _ (branches : Branches) (places : List ℕ) (width : length places ≡ branches.count + 1) (some : 0 < branches.count) where
  abbrev n : ℕ
  n = branches.count

  kinds : HasKinds (Merging branches) Merger n 0 n (length places) (merger_row n)
  kinds = merger_kinds branches (length places) width

  module _ (sets : List PlainMarks) (row : ℕ) (stands : Stands (Merging branches) places sets row) where
    kind_of : (kind : Kind) × IsKind 0 n kind × (merger_row n kind ≡ row)
    kind_of = kinds.each row stands.plain

    marked : (kind : Kind) → IsKind 0 n kind → merger_row n kind ≡ row → (o : ℕ) → o < n + 1 → has (marks_at sets (slice_index places o)) (kind_mark Merger n kind o) ≡ true
    marked kind is e o lt =
        let o_in : o < length places = omega (arith, lt, width) in
        subst (λ (m : Mark). has (marks_at sets (slice_index places o)) m ≡ true) (ap (λ (r : ℕ). mark_by (Merging branches) r o) (sym e) ∙ kinds.mark kind o is o_in) (stands.each o o_in)

    at_center : (kind : Kind) → IsKind 0 n kind → merger_row n kind ≡ row → has (marks_at sets (slice_index places n)) (center_of Merger kind) ≡ true
    at_center kind is e = subst (λ (m : Mark). has (marks_at sets (slice_index places n)) m ≡ true) (center_is Merger n kind n refl) (marked kind is e n (omega arith))

    at_input : (x : ℕ) → x < n → x ≡ row → (marks_at sets (slice_index places x)).flow ≡ true
    at_input x lt e =
        subst (λ (m : Mark). has (marks_at sets (slice_index places x)) m ≡ true) (spoke_is Merger n (apart x) x (λ f. omega (arith, lt, f)) ∙ ap (λ (t : Bool). cond t F G) (eq-eqb x x refl))
        (marked (apart x) (omega arith, lt) e x (omega (arith, lt)))

    -- A row by which no input flows.
    abbrev IsStill : Type 0
    IsStill = (n ≤ row) × (row < n + 2)

    pub still_or : IsStill ⊎ ((row < n) × ((marks_at sets (slice_index places row)).flow ≡ true) × ((marks_at sets (slice_index places n)).flow ≡ true))
    still_or = by kind_of.0 kind_of.1 kind_of.2
      where
        by : (kind : Kind) → IsKind 0 n kind → merger_row n kind ≡ row → IsStill ⊎ ((row < n) × ((marks_at sets (slice_index places row)).flow ≡ true) × ((marks_at sets (slice_index places n)).flow ≡ true))
        by (apart x) is e = inr (omega (arith, is.1, e), subst (λ (y : ℕ). (marks_at sets (slice_index places y)).flow ≡ true) e (at_input x is.1 e), at_center (apart x) is e)
        by rest is e = inl (omega (arith, e), omega (arith, e))
        by other is e = inl (omega (arith, e), omega (arith, e))

    -- What the output has by such a row.
    pub still_output : IsStill → ((row ≡ n) × ((marks_at sets (slice_index places n)).required ≡ true)) ⊎ ((row ≡ n + 1) × ((marks_at sets (slice_index places n)).given ≡ true))
    still_output still = by kind_of.0 kind_of.1 kind_of.2
      where
        by : (kind : Kind) → IsKind 0 n kind → merger_row n kind ≡ row → ((row ≡ n) × ((marks_at sets (slice_index places n)).required ≡ true)) ⊎ ((row ≡ n + 1) × ((marks_at sets (slice_index places n)).given ≡ true))
        by (apart x) is e = absurd (omega (arith, still.0, is.1, e))
        by rest is e = inl (sym e, at_center rest is e)
        by other is e = inr (sym e, at_center other is e)

    pub still_class : (turn : ℕ) → IsStill → merger_class n row turn ≡ n
    still_class turn still = class_still n turn some row still.0 still.1

  -- Where the output cannot flow, no input flows.
  pub no_output : (sets : List PlainMarks) → (marks_at sets (slice_index places n)).flow ≡ false → (turn row : ℕ) → Stands (Merging branches) places sets row → merger_class n row turn ≡ n
  no_output sets fails turn row s = elim (still_or sets row s) [ inl still ↦ still_class sets row s turn still | inr f ↦ let holds = f.2 in absurd (cc) ]

  pub no_input : (sets : List PlainMarks) → ((o : ℕ) → o < n → (marks_at sets (slice_index places o)).flow ≡ false) → (turn row : ℕ) → Stands (Merging branches) places sets row → merger_class n row turn ≡ n
  no_input sets none turn row s = elim (still_or sets row s) [ inl still ↦ still_class sets row s turn still | inr f ↦ let fails = none row f.0 in let holds = f.1 in absurd (cc) ]

  pub unchanged : (sets : List PlainMarks) → (marks_at sets (slice_index places n)).flow ≡ false → (turn : ℕ) → IsClassed (Merging branches) places turn sets sets
  unchanged sets fails turn = record {
    elsewhere = record { one_each = refl; others = λ x none. refl };
    fewer = λ x m h. h;
    class = n;
    least = λ row s. let e = no_output sets fails turn row s in omega (arith, e);
    stay = λ row s e. s;
    only = no_output sets fails turn;
  }

  mark_of_kind : (kind : Kind) → IsKind 0 n kind → (row : ℕ) → merger_row n kind ≡ row → (o : ℕ) → o < n + 1 → mark_by (Merging branches) row o ≡ kind_mark Merger n kind o
  mark_of_kind kind is row e o lt = ap (λ (r : ℕ). mark_by (Merging branches) r o) (sym e) ∙ kinds.mark kind o is (omega (arith, lt, width))

  -- The one row by which an input flows.
  flow_row : (i row : ℕ) → i < n → row + 1 < n + 3 → F ≡ mark_by (Merging branches) row i → row ≡ i
  flow_row i row lt plain flows = let k = kinds.each row plain in by k.0 k.1 k.2
    where
      away : i ≢ n
      away e = omega (arith, lt, e)

      by : (kind : Kind) → IsKind 0 n kind → merger_row n kind ≡ row → row ≡ i
      by (apart x) is e =
          let m : F ≡ cond (i == x) F G = flows ∙ mark_of_kind (apart x) is row e i (omega (arith, lt)) ∙ spoke_is Merger n (apart x) i away in
          elim (cases_eq i x) [
            | inl same ↦ omega (arith, e, same)
            | inr ne ↦ let no_flow : F ≡ G = m ∙ ap (λ (t : Bool). cond t F G) (ne_eqb i x ne) in absurd (cc)
          ]
      by rest is e = let m : F ≡ G = flows ∙ mark_of_kind rest is row e i (omega (arith, lt)) ∙ spoke_is Merger n rest i away in absurd (cc)
      by other is e = let m : F ≡ R = flows ∙ mark_of_kind other is row e i (omega (arith, lt)) ∙ spoke_is Merger n other i away in absurd (cc)

  flow_here : (i : ℕ) → i < n → mark_by (Merging branches) i i ≡ F
  flow_here i lt = mark_of_kind (apart i) (omega arith, lt) i refl i (omega (arith, lt)) ∙ spoke_is Merger n (apart i) i (λ e. omega (arith, lt, e)) ∙ ap (λ (t : Bool). cond t F G) (eq-eqb i i refl)

  flow_out : (i : ℕ) → i < n → mark_by (Merging branches) i n ≡ F
  flow_out i lt = mark_of_kind (apart i) (omega arith, lt) i refl n (omega arith) ∙ center_is Merger n (apart i) n refl

  -- The input whose turn it is flows, and the output.
  pub flowing : (turn : ℕ) (sets mid new : List PlainMarks) (i : ℕ) → ArePlaces (length sets) places → IsFirstInTurn (λ o. (marks_at sets (slice_index places o)).flow) n turn i
      → mid ≡ set sets (slice_index places i) (both (marks_at sets (slice_index places i)) (just F)) → new ≡ set mid (slice_index places n) (both (marks_at mid (slice_index places n)) (just F))
      → IsClassed (Merging branches) places turn sets new
  flowing turn sets mid new i are found mid_is new_is =
      let form : Form = Merging branches in
      let i_in : i < length places = omega (arith, found.in_range, width) in
      let n_in : n < length places = omega (arith, width) in
      let i_lt : slice_index places i < length sets = are.in_range i i_in in
      let count : length mid ≡ length sets = restrict_count sets mid (slice_index places i) (just F) i_lt mid_is in
      let n_lt : slice_index places n < length mid = omega (arith, are.in_range n n_in, count) in
      record {
        elsewhere = elsewhere_after places sets mid new
            (restrict_elsewhere sets mid (slice_index places i) (just F) i_lt mid_is form places i i_in refl are.once)
            (restrict_elsewhere mid new (slice_index places n) (just F) n_lt new_is form places n n_in refl are.once);
        fewer = fewer_after sets mid new (restrict_fewer sets mid (slice_index places i) (just F) i_lt mid_is) (restrict_fewer mid new (slice_index places n) (just F) n_lt new_is);
        class = merger_class n i turn;
        least = λ row s. elim (still_or sets row s) [
          | inl still ↦ let low = class_low n turn some i found.in_range in let e = still_class sets row s turn still in omega (arith, low, e)
          | inr f ↦ found.first row f.0 f.1
        ];
        stay = λ row s same.
            let is_i : row ≡ i = elim (still_or sets row s) [
              | inl still ↦ let low = class_low n turn some i found.in_range in let e = still_class sets row s turn still in absurd (omega (arith, low, e, same))
              | inr f ↦ class_one n turn some row i f.0 found.in_range same
            ] in
            stands_restrict mid new (slice_index places n) (just F) n_lt new_is form places n n_in refl are.once row
            (stands_restrict sets mid (slice_index places i) (just F) i_lt mid_is form places i i_in refl are.once row s
            (subst (λ (m : Mark). has (just F) m ≡ true) (sym (ap (λ (r : ℕ). mark_by form r i) is_i ∙ flow_here i found.in_range)) refl))
            (subst (λ (m : Mark). has (just F) m ≡ true) (sym (ap (λ (r : ℕ). mark_by form r n) is_i ∙ flow_out i found.in_range)) refl);
        only = λ row s.
            let half = restrict_stands mid new (slice_index places n) (just F) n_lt new_is form places n n_in refl are.once row s in
            let whole = restrict_stands sets mid (slice_index places i) (just F) i_lt mid_is form places i i_in refl are.once row half.0 in
            ap (λ (r : ℕ). merger_class n r turn) (flow_row i row found.in_range s.plain (just_has F (mark_by form row i) whole.1));
      }

  -- No input can flow, and so the output does not.
  pub stopping : (turn : ℕ) (sets new : List PlainMarks) (allowed : PlainMarks) → ArePlaces (length sets) places → ((o : ℕ) → o < n → (marks_at sets (slice_index places o)).flow ≡ false)
      → allowed.flow ≡ false → allowed.given ≡ true → allowed.required ≡ true → new ≡ set sets (slice_index places n) (both (marks_at sets (slice_index places n)) allowed)
      → IsClassed (Merging branches) places turn sets new
  stopping turn sets new allowed are none no_flow given required is =
      let form : Form = Merging branches in
      let n_in : n < length places = omega (arith, width) in
      let n_lt : slice_index places n < length sets = are.in_range n n_in in
      record {
        elsewhere = restrict_elsewhere sets new (slice_index places n) allowed n_lt is form places n n_in refl are.once;
        fewer = restrict_fewer sets new (slice_index places n) allowed n_lt is;
        class = n;
        least = λ row s. let e = no_input sets none turn row s in omega (arith, e);
        stay = λ row s same. stands_restrict sets new (slice_index places n) allowed n_lt is form places n n_in refl are.once row s (still_mark row s (none_flows row s));
        only = λ row s. no_input sets none turn row (restrict_stands sets new (slice_index places n) allowed n_lt is form places n n_in refl are.once row s).0;
      }
    where
      none_flows : (row : ℕ) → Stands (Merging branches) places sets row → (n ≤ row) × (row < n + 2)
      none_flows row s = elim (still_or sets row s) [ inl still ↦ still | inr f ↦ let fails = none row f.0 in let holds = f.1 in absurd (cc) ]

      still_mark : (row : ℕ) → Stands (Merging branches) places sets row → (n ≤ row) × (row < n + 2) → has allowed (mark_by (Merging branches) row n) ≡ true
      still_mark row s still = let k = kind_of sets row s in by k.0 k.1 k.2
        where
          by : (kind : Kind) → IsKind 0 n kind → merger_row n kind ≡ row → has allowed (mark_by (Merging branches) row n) ≡ true
          by (apart x) is e = absurd (omega (arith, still.0, is.1, e))
          by rest is e = subst (λ (m : Mark). has allowed m ≡ true) (sym (mark_of_kind rest is row e n (omega arith) ∙ center_is Merger n rest n refl)) required
          by other is e = subst (λ (m : Mark). has allowed m ≡ true) (sym (mark_of_kind other is row e n (omega arith) ∙ center_is Merger n other n refl)) given

-- The rows of a replicator that stand.
module _ (branches : Branches) (places : List ℕ) (width : length places ≡ branches.count + 1) where
  abbrev outputs : ℕ
  outputs = branches.count

  copies : HasKinds (Replicating branches) Replicator 0 1 (outputs + 1) (length places) replicator_row
  copies = replicator_kinds branches (length places) width

  first_in : 0 < length places
  first_in = omega (arith, width)

  copy_mark : (kind : Kind) → IsKind 1 (outputs + 1) kind → (row : ℕ) → replicator_row kind ≡ row → (o : ℕ) → o < outputs + 1 → mark_by (Replicating branches) row o ≡ kind_mark Replicator 0 kind o
  copy_mark kind is row e o lt = ap (λ (r : ℕ). mark_by (Replicating branches) r o) (sym e) ∙ copies.mark kind o is (omega (arith, lt, width))

  input_mark : (kind : Kind) → IsKind 1 (outputs + 1) kind → (row : ℕ) → replicator_row kind ≡ row → mark_by (Replicating branches) row 0 ≡ center_of Replicator kind
  input_mark kind is row e = copy_mark kind is row e 0 (omega arith) ∙ center_is Replicator 0 kind 0 refl

  -- By row 0 the input flows, by row 1 it gives no reason, and by each other an output gives none.
  pub copy_or : (sets : List PlainMarks) (row : ℕ) → Stands (Replicating branches) places sets row
      → ((row ≡ 0) × ((marks_at sets (slice_index places 0)).flow ≡ true))
      ⊎ (((row ≡ 1) × ((marks_at sets (slice_index places 0)).required ≡ true))
      ⊎ ((x : ℕ) × (1 ≤ x) × (x < outputs + 1) × (x + 1 ≡ row) × ((marks_at sets (slice_index places x)).required ≡ true)))
  copy_or sets row s = let k = copies.each row s.plain in by k.0 k.1 k.2
    where
      by : (kind : Kind) → IsKind 1 (outputs + 1) kind → replicator_row kind ≡ row
          → ((row ≡ 0) × ((marks_at sets (slice_index places 0)).flow ≡ true))
          ⊎ (((row ≡ 1) × ((marks_at sets (slice_index places 0)).required ≡ true))
          ⊎ ((x : ℕ) × (1 ≤ x) × (x < outputs + 1) × (x + 1 ≡ row) × ((marks_at sets (slice_index places x)).required ≡ true)))
      by (apart x) is e = inr (inr (
        x,
        is.0,
        is.1,
        e,
        subst (λ (m : Mark). has (marks_at sets (slice_index places x)) m ≡ true)
            (copy_mark (apart x) is row e x is.1 ∙ spoke_is Replicator 0 (apart x) x (λ f. omega (arith, is.0, f)) ∙ ap (λ (t : Bool). cond t R G) (eq-eqb x x refl))
            (s.each x (omega (arith, is.1, width))),
      ))
      by rest is e = inr (inl (sym e, subst (λ (m : Mark). has (marks_at sets (slice_index places 0)) m ≡ true) (input_mark rest is row e) (s.each 0 first_in)))
      by other is e = inl (sym e, subst (λ (m : Mark). has (marks_at sets (slice_index places 0)) m ≡ true) (input_mark other is row e) (s.each 0 first_in))

  copy_class : (row turn : ℕ) → 0 < row → row + 1 < outputs + 3 → replicator_class outputs row ≡ 1
  copy_class row turn some lt = λ i. cond (ne_eqb row 0 (λ e. omega (arith, e, some)) i) 0 (cond (lt-ltb row (outputs + 2) (omega (arith, lt)) i) 1 2)

  flow_zero : (row : ℕ) → row + 1 < outputs + 3 → F ≡ mark_by (Replicating branches) row 0 → row ≡ 0
  flow_zero row plain flows = let k = copies.each row plain in by k.0 k.1 k.2
    where
      by : (kind : Kind) → IsKind 1 (outputs + 1) kind → replicator_row kind ≡ row → row ≡ 0
      by (apart x) is e = let m : F ≡ G = flows ∙ input_mark (apart x) is row e in absurd (cc)
      by rest is e = let m : F ≡ R = flows ∙ input_mark rest is row e in absurd (cc)
      by other is e = sym e

  class_zero : (row : ℕ) → row + 1 < outputs + 3 → replicator_class outputs row ≡ 0 → row ≡ 0
  class_zero row plain none = elim (cases_eq row 0) [ inl e ↦ e | inr ne ↦ let one = copy_class row 0 (omega (arith, ne)) plain in absurd (omega (arith, one, none)) ]

  pub copying : (turn : ℕ) (sets new : List PlainMarks) → ArePlaces (length sets) places → new ≡ set sets (slice_index places 0) (both (marks_at sets (slice_index places 0)) (just F)) → IsClassed (Replicating branches) places turn sets new
  copying turn sets new are is =
      let form : Form = Replicating branches in
      let lt : slice_index places 0 < length sets = are.in_range 0 first_in in
      record {
        elsewhere = restrict_elsewhere sets new (slice_index places 0) (just F) lt is form places 0 first_in refl are.once;
        fewer = restrict_fewer sets new (slice_index places 0) (just F) lt is;
        class = 0;
        least = λ row s. omega arith;
        stay = λ row s same. stands_restrict sets new (slice_index places 0) (just F) lt is form places 0 first_in refl are.once row s
            (subst (λ (r : ℕ). has (just F) (mark_by form r 0) ≡ true) (sym (class_zero row s.plain same)) refl);
        only = λ row s. ap (λ (r : ℕ). replicator_class outputs r) (flow_zero row s.plain (just_has F (mark_by form row 0) (restrict_stands sets new (slice_index places 0) (just F) lt is form places 0 first_in refl are.once row s).1));
      }

  pub not_copying : (turn : ℕ) (sets : List PlainMarks) → (marks_at sets (slice_index places 0)).flow ≡ false → IsClassed (Replicating branches) places turn sets sets
  not_copying turn sets fails = record {
    elsewhere = record { one_each = refl; others = λ x none. refl };
    fewer = λ x m h. h;
    class = 1;
    least = λ row s. let e = one row s in omega (arith, e);
    stay = λ row s same. s;
    only = one;
  }
    where
      one : (row : ℕ) → Stands (Replicating branches) places sets row → replicator_class outputs row ≡ 1
      one row s = elim (copy_or sets row s) [
        | inl f ↦ let holds = f.1 in absurd (cc)
        | inr r ↦ elim r [
          | inl f ↦ copy_class row turn (omega (arith, f.0)) s.plain
          | inr f ↦ copy_class row turn (omega (arith, f.3)) s.plain
        ]
      ]
