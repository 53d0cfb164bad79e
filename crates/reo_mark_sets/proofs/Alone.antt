-- Sides at whose ends the marks of one row are left alone.
use Rattle.std.proofs.Common.{◌≡◌, ◌||◌, inl, inr, ℕ, ◌+◌, ◌<◌, true, List, length, slice_index, refl, sym, ap, ◌∙◌, subst, arith}
use Rattle.std.proofs.lemmas.Bool.{cases_eq, and_parts}
use Rattle.reo_net_base.specs.declared.mark.Mark.{Mark}
use Rattle.reo_net_base.specs.declared.mark.Mark.TheVariants.{F, G, R, J}
use Rattle.reo_net_base.specs.declared.form.Form.{Form}
use Rattle.reo_net_base.specs.Forms.{mark_by}
use Rattle.reo_mark_sets.specs.declared.marks.PlainMarks.{PlainMarks}
use Rattle.reo_mark_sets.specs.PlainMarks.{has, just, met, marks_at, open_at}
use Rattle.reo_mark_sets.specs.Standing.{IsLeastRow, IsSole, IsFixed}
use Rattle.reo_mark_sets.proofs.Classed.{just_has}
use Rattle.reo_mark_sets.proofs.Rows.{some_has}

-- A mark of the row is alone at a place, and meets one.
pub record Holds (form : Form) (places : List ℕ) (row : ℕ) (sets : List PlainMarks) (o : ℕ) : Type 0 where
  pub alone : marks_at sets (slice_index places o) ≡ just (mark_by form row o)
  pub meets : has (open_at sets (slice_index places o)) (mark_by form row o) ≡ true

module _ (form : Form) (places : List ℕ) (row : ℕ) (sets : List PlainMarks) where
  pub holds_sole : (o : ℕ) (mark : Mark) → mark ≡ mark_by form row o → has (marks_at sets (slice_index places o)) mark ≡ true → IsSole sets (slice_index places o) → Holds form places row sets o
  holds_sole o mark is here sole =
      let both = sole mark here in
      record { alone = both.0 ∙ ap just is; meets = subst (λ (m : Mark). has (open_at sets (slice_index places o)) m ≡ true) is both.1 }

  pub hold_more : (n : ℕ) → ((o : ℕ) → o < n → Holds form places row sets o) → Holds form places row sets n → (o : ℕ) → o < n + 1 → Holds form places row sets o
  hold_more n before here o lt = elim (cases_eq o n) [
    | inl e ↦ subst (Holds form places row sets) (sym e) here
    | inr ne ↦ before o (omega (arith, lt, ne))
  ]

  pub fixed : IsLeastRow form places sets row → ((o : ℕ) → o < length places → Holds form places row sets o) → IsFixed form places row sets
  fixed first hold = record {
    chosen = record {
      elsewhere = record { one_each = refl; others = λ x none. refl };
      first = first;
      exact = λ o m lt. (λ h. (h, just_has (mark_by form row o) m (subst (λ (x : PlainMarks). has x m ≡ true) (hold o lt).alone h)), λ h. h.0);
    };
    meets = λ o lt. (mark_by form row o, (hold o lt).meets);
  }

  none_held : (o : ℕ) → o < 0 → Holds form places row sets o
  none_held o lt = absurd (omega arith)

  pub fixed_one : length places ≡ 1 → IsLeastRow form places sets row → Holds form places row sets 0 → IsFixed form places row sets
  fixed_one width first here = fixed first (λ o lt. hold_more 0 none_held here o (omega (arith, lt, width)))

  pub fixed_two : length places ≡ 2 → IsLeastRow form places sets row → Holds form places row sets 0 → Holds form places row sets 1 → IsFixed form places row sets
  fixed_two width first here there = fixed first (λ o lt. hold_more 1 (hold_more 0 none_held here) there o (omega (arith, lt, width)))

met_has : (own theirs : PlainMarks) (m : Mark) → has (met own theirs) m ≡ true → has own m ≡ true
met_has own theirs F h = (and_parts own.flow theirs.flow h).0
met_has own theirs G h = (and_parts own.given (theirs.given || theirs.required) h).0
met_has own theirs R h = (and_parts own.required theirs.given h).0
met_has own theirs J h = h

-- One mark alone that meets one.
pub sole : (own theirs : PlainMarks) → ((mark : Mark) → has own mark ≡ true → own ≡ just mark) → (mine : PlainMarks) → mine ≡ met own theirs → (mine.flow || (mine.given || mine.required)) ≡ true
    → (mark : Mark) → has own mark ≡ true → (own ≡ just mark) × (has (met own theirs) mark ≡ true)
sole own theirs alone mine is some mark here =
    let found = some_has mine some in
    let met_there : has (met own theirs) found.0 ≡ true = subst (λ (m : PlainMarks). has m found.0 ≡ true) is found.1 in
    let own_there : has own found.0 ≡ true = met_has own theirs found.0 met_there in
    let same : found.0 ≡ mark = just_has found.0 mark (subst (λ (m : PlainMarks). has m mark ≡ true) (alone found.0 own_there) here) in
    (alone mark here, subst (λ (m : Mark). has (met own theirs) m ≡ true) same met_there)
