-- All marks at a place.
use Rattle.std.proofs.Common.{◌≡◌, inl, inr, ℕ, ◌+◌, ◌<◌, List, length, slice_index, set, ap, ◌∙◌, arith, get_or-set_same, get_or-set_other}
use Rattle.std.proofs.lemmas.Bool.{cases_eq}
use Rattle.std.proofs.lemmas.List.{length-set}
use Rattle.reo_mark_sets.specs.declared.marks.PlainMarks.{PlainMarks}
use Rattle.reo_mark_sets.specs.PlainMarks.{marks_at, all_marks, no_marks}
use Rattle.reo_mark_sets.specs.Standing.{AreAll}

pub reset_stays : (sets : List PlainMarks) (place x : ℕ) → place < length sets → marks_at sets x ≡ all_marks → marks_at (set sets place all_marks) x ≡ all_marks
reset_stays sets place x lt is = elim (cases_eq x place) [
  | inl e ↦ ap (marks_at (set sets place all_marks)) e ∙ get_or-set_same sets place all_marks no_marks lt
  | inr ne ↦ get_or-set_other sets place x all_marks no_marks ne ∙ is
]

pub reset_here : (sets : List PlainMarks) (places : List ℕ) (end : ℕ) → slice_index places end < length sets → ((o : ℕ) → o < end → marks_at sets (slice_index places o) ≡ all_marks)
    → (o : ℕ) → o < end + 1 → marks_at (set sets (slice_index places end) all_marks) (slice_index places o) ≡ all_marks
reset_here sets places end place_in before o lt = elim (cases_eq o end) [
  | inl e ↦ ap (λ (p : ℕ). marks_at (set sets (slice_index places end) all_marks) (slice_index places p)) e ∙ get_or-set_same sets (slice_index places end) all_marks no_marks place_in
  | inr ne ↦ reset_stays sets (slice_index places end) (slice_index places o) place_in (before o (omega (arith, lt, ne)))
]

-- One place, or two.
pub all_one : (old : List PlainMarks) (places : List ℕ) → length places ≡ 1 → ((o : ℕ) → o < length places → slice_index places o < length old) → AreAll places old (set old (slice_index places 0) all_marks)
all_one old places width within =
    let first_in = within 0 (omega (arith, width)) in
    record {
      one_each = length-set old (slice_index places 0) all_marks;
      here = λ o lt. reset_here old places 0 first_in (λ p p_lt. absurd (omega arith)) o (omega (arith, lt, width));
      stays = λ x is. reset_stays old (slice_index places 0) x first_in is;
    }

pub all_two : (old : List PlainMarks) (places : List ℕ) → length places ≡ 2 → ((o : ℕ) → o < length places → slice_index places o < length old) → AreAll places old (set (set old (slice_index places 0) all_marks) (slice_index places 1) all_marks)
all_two old places width within =
    let mid : List PlainMarks = set old (slice_index places 0) all_marks in
    let count : length mid ≡ length old = length-set old (slice_index places 0) all_marks in
    let first_in = within 0 (omega (arith, width)) in
    let second_in = within 1 (omega (arith, width)) in
    let there : slice_index places 1 < length mid = omega (arith, second_in, count) in
    record {
      one_each = length-set mid (slice_index places 1) all_marks ∙ count;
      here = λ o lt. reset_here mid places 1 there (reset_here old places 0 first_in (λ p p_lt. absurd (omega arith))) o (omega (arith, lt, width));
      stays = λ x is. reset_stays mid (slice_index places 1) x there (reset_stays old (slice_index places 0) x first_in is);
    }
