-- The first row that stands.
use Rattle.std.proofs.Common.{◌≡◌, inl, inr, ◌↔◌, ℕ, zero, suc, ◌+◌, ◌<◌, ◌≤◌, Bool, true, false, cond, List, [], ◌∷◌, length, slice_index, set, sym, ap, ◌∙◌, refl, subst, arith}
use Rattle.std.proofs.lemmas.Bool.{cases_eq, cases_lt}
use Rattle.reo_net_base.specs.declared.mark.Mark.{Mark}
use Rattle.reo_net_base.specs.declared.table.Table.{Table}
use Rattle.reo_net_base.specs.declared.table.Table.TheVariants.{Ready, Resting, Together, Lossy, OneOfTwo, Filter, Spent}
use Rattle.reo_net_base.specs.declared.branches.Branches.{Branches}
use Rattle.reo_net_base.specs.declared.form.Form.{Form}
use Rattle.reo_net_base.specs.declared.form.Form.TheVariants.{Single, Double, Merging, Replicating}
use Rattle.reo_net_base.specs.Forms.{mark_by}
use Rattle.reo_net_base.specs.Rows.{Rows}
use Rattle.reo_net_base.specs.Tables.{rows_of}
use Rattle.reo_mark_sets.specs.declared.marks.PlainMarks.{PlainMarks}
use Rattle.reo_mark_sets.specs.PlainMarks.{has, marks_at, just, both}
use Rattle.reo_mark_sets.specs.Listed.{fits_one, fits_two, first_fit}
use Rattle.reo_mark_sets.specs.Standing.{ArePlaces, Stands, AreElsewhere, IsLeastRow, IsChosen}
use Rattle.reo_mark_sets.specs.Tallies.{IsFirstBetween}
use Rattle.reo_mark_sets.proofs.Classed.{stands_one, stands_two, still_or, still_output, copy_or, restrict_exact, restrict_other, restrict_count, just_has, has_just}
use Rattle.reo_mark_sets.proofs.Putting.{contains_at}
use Rattle.reo_mark_sets.proofs.Rows.{row_in}

-- Listed rows.
module _ (fits : List Mark → Bool) where
  fit_below : (row : List Mark) (rows : Rows) → first_fit (row ∷ rows) fits < length (row ∷ rows)
  fit_below row [] = omega arith
  fit_below row (next ∷ rows) = elim (fits row) as (λ t. cond t 0 (suc (first_fit (next ∷ rows) fits)) < length (row ∷ (next ∷ rows))) [
    | true ↦ omega arith
    | false ↦ let rest = fit_below next rows in omega (arith, rest)
  ]

  fit_least : (rows : Rows) (r : ℕ) → r < length rows → fits (row_in rows r) ≡ true → first_fit rows fits ≤ r
  fit_least [] r lt h = absurd (omega arith)
  fit_least (row ∷ []) r lt h = omega arith
  fit_least (row ∷ (next ∷ rows)) zero lt h = subst (λ (t : Bool). cond t 0 (suc (first_fit (next ∷ rows) fits)) ≤ 0) (sym h) (omega arith)
  fit_least (row ∷ (next ∷ rows)) (suc r) lt h = elim (fits row) as (λ t. cond t 0 (suc (first_fit (next ∷ rows) fits)) ≤ suc r) [
    | true ↦ omega arith
    | false ↦ let rest = fit_least (next ∷ rows) r (omega arith) h in omega (arith, rest)
  ]

  fit_some : (rows : Rows) → 0 < length rows → first_fit rows fits < length rows
  fit_some [] some = absurd (omega arith)
  fit_some (row ∷ rows) some = fit_below row rows

  fit_in : (table : Table) → first_fit (rows_of table) fits < length (rows_of table)
  fit_in table = fit_some (rows_of table) (some table)
    where
      some : (table : Table) → 0 < length (rows_of table)
      some Ready = omega arith
      some Resting = omega arith
      some Together = omega arith
      some Lossy = omega arith
      some OneOfTwo = omega arith
      some Filter = omega arith
      some Spent = omega arith

pub single_first : (table : Table) (places : List ℕ) (sets : List PlainMarks) → length places ≡ 1 → (a : PlainMarks) → a ≡ marks_at sets (slice_index places 0)
    → (row : ℕ) → row ≡ first_fit (rows_of table) (fits_one a) → IsLeastRow (Single table) places sets row
single_first table places sets width a a_is row is = record {
  plain = let below = fit_in (fits_one a) table in omega (arith, below, is);
  least = λ r s.
      let t = stands_one table places width sets r s in
      let le = fit_least (fits_one a) (rows_of table) r t.0 ((λ i. fits_one (a_is i) (row_in (rows_of table) r)) ∙ t.1) in
      omega (arith, le, is);
}

pub double_first : (table : Table) (places : List ℕ) (sets : List PlainMarks) → length places ≡ 2 → (a b : PlainMarks) → a ≡ marks_at sets (slice_index places 0) → b ≡ marks_at sets (slice_index places 1)
    → (row : ℕ) → row ≡ first_fit (rows_of table) (fits_two a b) → IsLeastRow (Double table) places sets row
double_first table places sets width a b a_is b_is row is = record {
  plain = let below = fit_in (fits_two a b) table in omega (arith, below, is);
  least = λ r s.
      let t = stands_two table places width sets r s in
      let le = fit_least (fits_two a b) (rows_of table) r t.0 ((λ i. fits_two (a_is i) (b_is i) (row_in (rows_of table) r)) ∙ t.1) in
      omega (arith, le, is);
}

-- Mergers.
module _ (branches : Branches) (places : List ℕ) (width : length places ≡ branches.count + 1) (some : 0 < branches.count) (sets : List PlainMarks) where
  abbrev n : ℕ
  n = branches.count

  abbrev output : PlainMarks
  output = marks_at sets (slice_index places n)

  still_first : ((row : ℕ) → Stands (Merging branches) places sets row → (n ≤ row) × (row < n + 2)) → (t : Bool) → t ≡ output.required → (row : ℕ) → row ≡ cond t n (n + 1) → IsLeastRow (Merging branches) places sets row
  still_first still true t_is row is = record { plain = omega (arith, is); least = λ r s. let le = (still r s).0 in omega (arith, is, le) }
  still_first still false t_is row is = record {
    plain = omega (arith, is);
    least = λ r s. elim (still_output branches places width some sets r s (still r s)) [
      | inl f ↦ let holds = f.1 in absurd (cc)
      | inr f ↦ omega (arith, is, f.0)
    ];
  }

  pub no_output_first : output.flow ≡ false → (o : PlainMarks) → o ≡ output → (row : ℕ) → row ≡ cond o.required n (n + 1) → IsLeastRow (Merging branches) places sets row
  no_output_first fails o o_is row is =
      still_first (λ r s. elim (still_or branches places width some sets r s) [ inl still ↦ still | inr f ↦ let holds = f.2 in absurd (cc) ]) o.required (ap (λ (m : PlainMarks). m.required) o_is) row is

  pub no_input_first : ((o : ℕ) → 0 ≤ o → o < n → (marks_at sets (slice_index places o)).flow ≡ false) → (o : PlainMarks) → o ≡ output → (row : ℕ) → row ≡ cond o.required n (n + 1) → IsLeastRow (Merging branches) places sets row
  no_input_first none o o_is row is =
      still_first (λ r s. elim (still_or branches places width some sets r s) [ inl still ↦ still | inr f ↦ let fails = none r (omega arith) f.0 in let holds = f.1 in absurd (cc) ]) o.required (ap (λ (m : PlainMarks). m.required) o_is) row is

  pub input_first : (i : ℕ) → IsFirstBetween (λ o. (marks_at sets (slice_index places o)).flow) 0 n i → IsLeastRow (Merging branches) places sets i
  input_first i found = record {
    plain = omega (arith, found.in_range);
    least = λ r s. elim (still_or branches places width some sets r s) [
      | inl still ↦ omega (arith, found.in_range, still.0)
      | inr f ↦ elim (cases_lt r i) [ inl early ↦ let fails = found.first r (omega arith) early in let holds = f.1 in absurd (cc) | inr le ↦ le ]
    ];
  }

-- Replicators, where the input neither flows nor asks for a reason.
pub output_first : (branches : Branches) (places : List ℕ) → length places ≡ branches.count + 1 → (sets : List PlainMarks) → (marks_at sets (slice_index places 0)).flow ≡ false → (marks_at sets (slice_index places 0)).required ≡ false
    → (o : ℕ) → IsFirstBetween (λ e. (marks_at sets (slice_index places e)).required) 1 (branches.count + 1) o → IsLeastRow (Replicating branches) places sets (o + 1)
output_first branches places width sets no_flow no_reason o found = record {
  plain = omega (arith, found.in_range);
  least = λ r s. elim (copy_or branches places width sets r s) [
    | inl f ↦ let holds = f.1 in absurd (cc)
    | inr g ↦ elim g [
      | inl f ↦ let holds = f.1 in absurd (cc)
      | inr f ↦ elim (cases_lt f.0 o) [ inl early ↦ let fails = found.first f.0 f.1 early in let holds = f.4 in absurd (cc) | inr le ↦ omega (arith, le, f.3) ]
    ]
  ];
}

-- One place after another is pinned to the mark of a row.
module _ (form : Form) (places : List ℕ) (initial now new : List PlainMarks) (row end : ℕ) (are : ArePlaces (length initial) places) (in_range : end < length places) (one_each : length now ≡ length initial)
    (others : (x : ℕ) → ((o : ℕ) → o < end → slice_index places o ≡ x → ⊥) → marks_at now x ≡ marks_at initial x)
    (is : new ≡ set now (slice_index places end) (both (marks_at now (slice_index places end)) (just (mark_by form row end)))) where
  place_in : slice_index places end < length now
  place_in = omega (arith, are.in_range end in_range, one_each)

  pub pin_count : length new ≡ length initial
  pin_count = restrict_count now new (slice_index places end) (just (mark_by form row end)) place_in is ∙ one_each

  pub pin_others : (x : ℕ) → ((o : ℕ) → o < end + 1 → slice_index places o ≡ x → ⊥) → marks_at new x ≡ marks_at initial x
  pin_others x none =
      restrict_other now new (slice_index places end) (just (mark_by form row end)) place_in is x (λ e. none end (omega arith) (sym e))
      ∙ others x (λ o lt same. none o (omega (arith, lt)) same)

  here_same : marks_at now (slice_index places end) ≡ marks_at initial (slice_index places end)
  here_same = others (slice_index places end) (λ o lt same. let e : o ≡ end = are.once o end (omega (arith, lt, in_range)) in_range same in omega (arith, lt, e))

  pub pin_done : ((o : ℕ) (m : Mark) → o < end → (has (marks_at now (slice_index places o)) m ≡ true) ↔ ((has (marks_at initial (slice_index places o)) m ≡ true) × (mark_by form row o ≡ m)))
      → (o : ℕ) (m : Mark) → o < end + 1 → (has (marks_at new (slice_index places o)) m ≡ true) ↔ ((has (marks_at initial (slice_index places o)) m ≡ true) × (mark_by form row o ≡ m))
  pin_done before o m lt = elim (cases_eq o end) [
    | inl e ↦ subst (λ (p : ℕ). (has (marks_at new (slice_index places p)) m ≡ true) ↔ ((has (marks_at initial (slice_index places p)) m ≡ true) × (mark_by form row p ≡ m))) (sym e) here
    | inr ne ↦
        let o_lt : o < end = omega (arith, lt, ne) in
        let same = restrict_other now new (slice_index places end) (just (mark_by form row end)) place_in is (slice_index places o) (λ f. ne (are.once o end (omega (arith, o_lt, in_range)) in_range f)) in
        subst (λ (x : PlainMarks). (has x m ≡ true) ↔ ((has (marks_at initial (slice_index places o)) m ≡ true) × (mark_by form row o ≡ m))) (sym same) (before o m o_lt)
  ]
    where
      here : (has (marks_at new (slice_index places end)) m ≡ true) ↔ ((has (marks_at initial (slice_index places end)) m ≡ true) × (mark_by form row end ≡ m))
      here =
          let exact = restrict_exact now new (slice_index places end) (just (mark_by form row end)) place_in is m in (
            λ h. let pair = exact.0 h in (subst (λ (x : PlainMarks). has x m ≡ true) here_same pair.0, just_has (mark_by form row end) m pair.1),
            λ h. exact.1 (subst (λ (x : PlainMarks). has x m ≡ true) (sym here_same) h.0, has_just (marks_at initial (slice_index places end)) (mark_by form row end) m h.0 h.1),
          )

pub chosen_elsewhere : (places : List ℕ) (initial now : List PlainMarks) (end : ℕ) → end ≡ length places → length now ≡ length initial
    → ((x : ℕ) → ((o : ℕ) → o < end → slice_index places o ≡ x → ⊥) → marks_at now x ≡ marks_at initial x) → AreElsewhere places initial now
chosen_elsewhere places initial now end all count others = record {
  one_each = count;
  others = λ x none. others x (λ o lt same. none (contains_at places o x (omega (arith, lt, all)) same));
}

-- One place or two are pinned.
module _ (form : Form) (places : List ℕ) (row : ℕ) (initial : List PlainMarks) (are : ArePlaces (length initial) places) (first : IsLeastRow form places initial row) where
  abbrev Pinned : ℕ → List PlainMarks → List PlainMarks → Type 0
  Pinned end now new = new ≡ set now (slice_index places end) (both (marks_at now (slice_index places end)) (just (mark_by form row end)))

  abbrev Others : ℕ → List PlainMarks → Type 0
  Others end now = (x : ℕ) → ((o : ℕ) → o < end → slice_index places o ≡ x → ⊥) → marks_at now x ≡ marks_at initial x

  abbrev Done : ℕ → List PlainMarks → Type 0
  Done end now = (o : ℕ) (m : Mark) → o < end → (has (marks_at now (slice_index places o)) m ≡ true) ↔ ((has (marks_at initial (slice_index places o)) m ≡ true) × (mark_by form row o ≡ m))

  all_pinned : (now : List PlainMarks) (end : ℕ) → end ≡ length places → length now ≡ length initial → Others end now → Done end now → IsChosen form places row initial now
  all_pinned now end all count others done = record {
    elsewhere = chosen_elsewhere places initial now end all count others;
    first = first;
    exact = λ o m lt. done o m (omega (arith, lt, all));
  }

  none_before : Done 0 initial
  none_before o m lt = absurd (omega arith)

  pub one_pinned : (new : List PlainMarks) → length places ≡ 1 → Pinned 0 initial new → IsChosen form places row initial new
  one_pinned new width is =
      let lt : 0 < length places = omega (arith, width) in
      all_pinned new 1 (sym width)
      (pin_count form places initial initial new row 0 are lt refl (λ x none. refl) is)
      (pin_others form places initial initial new row 0 are lt refl (λ x none. refl) is)
      (pin_done form places initial initial new row 0 are lt refl (λ x none. refl) is none_before)

  pub two_pinned : (now new : List PlainMarks) → length places ≡ 2 → Pinned 0 initial now → Pinned 1 now new → IsChosen form places row initial new
  two_pinned now new width before is =
      let zero_in : 0 < length places = omega (arith, width) in
      let one_in : 1 < length places = omega (arith, width) in
      let count = pin_count form places initial initial now row 0 are zero_in refl (λ x none. refl) before in
      let others = pin_others form places initial initial now row 0 are zero_in refl (λ x none. refl) before in
      let done = pin_done form places initial initial now row 0 are zero_in refl (λ x none. refl) before none_before in
      all_pinned new 2 (sym width)
      (pin_count form places initial now new row 1 are one_in count others is)
      (pin_others form places initial now new row 1 are one_in count others is)
      (pin_done form places initial now new row 1 are one_in count others is done)
