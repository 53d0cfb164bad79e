-- Marks put at a place.
use Rattle.std.proofs.Common.{◌≡◌, ◌≢◌, inl, inr, ◌∙◌, sym, ap, subst, ℕ, ◌+◌, ◌<◌, ◌≤◌, Bool, true, false, List, length, get_or-set_same, get_or-set_other, slice_index, set, refl, arith}
use Rattle.std.specs.Prelude.{◌&&◌, Contains}
use Rattle.std.proofs.Math.Bool.{beq}
use Rattle.std.proofs.lemmas.Bool.{and_parts, cases_eq}
use Rattle.std.proofs.lemmas.List.Elements.{Contains-get_or}
use Rattle.std.proofs.lemmas.List.{set-get_or, length-set}
use Rattle.reo_mark_sets.specs.declared.marks.PlainMarks.{PlainMarks}
use Rattle.reo_mark_sets.specs.PlainMarks.{marks_at, no_marks, open_at, met, partner}
use Rattle.reo_mark_sets.specs.Standing.{ArePlaces, AreElsewhere}
use Rattle.reo_mark_sets.specs.Stars.{IsStar}

same_bool : (x y : Bool) → beq x y ≡ true → x ≡ y
same_bool true true h = refl
same_bool true false h = cc
same_bool false true h = cc
same_bool false false h = refl

pub same_marks : (a b : PlainMarks) → (beq a.flow b.flow && (beq a.given b.given && beq a.required b.required)) ≡ true → a ≡ b
same_marks a b h =
    let one = and_parts (beq a.flow b.flow) (beq a.given b.given && beq a.required b.required) h in
    let two = and_parts (beq a.given b.given) (beq a.required b.required) one.1 in
    let f = same_bool a.flow b.flow one.0 in
    let g = same_bool a.given b.given two.0 in
    let r = same_bool a.required b.required two.1 in
    λ i. record { flow = f i; given = g i; required = r i }

-- Marks that are there already change nothing.
pub put_same : (sets : List PlainMarks) (place : ℕ) (there marks : PlainMarks) → there ≡ marks_at sets place → (beq there.flow marks.flow && (beq there.given marks.given && beq there.required marks.required)) ≡ true
    → sets ≡ set sets place marks
put_same sets place there marks is same = sym (ap (set sets place) (sym (same_marks there marks same) ∙ is) ∙ set-get_or sets place no_marks)

pub marks_here : (sets : List PlainMarks) (place : ℕ) (marks : PlainMarks) → place < length sets → marks_at (set sets place marks) place ≡ marks
marks_here sets place marks lt = get_or-set_same sets place marks no_marks lt

pub marks_other : (sets : List PlainMarks) (place x : ℕ) (marks : PlainMarks) → x ≢ place → marks_at (set sets place marks) x ≡ marks_at sets x
marks_other sets place x marks ne = get_or-set_other sets place x marks no_marks ne

-- Marks put at one place after another.
module _ (places : List ℕ) (initial now : List PlainMarks) (are : ArePlaces (length initial) places) (from end : ℕ) (in_range : end < length places) (one_each : length now ≡ length initial)
    (others : (x : ℕ) → ((o : ℕ) → from ≤ o → o < end → slice_index places o ≡ x → ⊥) → marks_at now x ≡ marks_at initial x) where
  here_same : marks_at now (slice_index places end) ≡ marks_at initial (slice_index places end)
  here_same = others (slice_index places end) (λ o le lt same. let e : o ≡ end = are.once o end (omega (arith, lt, in_range)) in_range same in omega (arith, lt, e))

  there_same : marks_at now (partner (slice_index places end)) ≡ marks_at initial (partner (slice_index places end))
  there_same = others (partner (slice_index places end)) (λ o le lt same. are.apart end o in_range (omega (arith, lt, in_range)) (sym same))

  pub open_same : open_at now (slice_index places end) ≡ open_at initial (slice_index places end)
  open_same i = met (here_same i) (there_same i)

  module _ (marks : PlainMarks) where
    abbrev new : List PlainMarks
    new = set now (slice_index places end) marks

    pub one_each_put : length new ≡ length initial
    one_each_put = length-set now (slice_index places end) marks ∙ one_each

    pub others_put : (x : ℕ) → ((o : ℕ) → from ≤ o → o < end + 1 → slice_index places o ≡ x → ⊥) → from ≤ end → marks_at new x ≡ marks_at initial x
    others_put x none le =
        marks_other now (slice_index places end) x marks (λ e. none end le (omega arith) (sym e))
        ∙ others x (λ o o_le o_lt same. none o o_le (omega (arith, o_lt)) same)

    pub done_here : marks_at new (slice_index places end) ≡ marks
    done_here = marks_here now (slice_index places end) marks (omega (arith, are.in_range end in_range, one_each))

    pub done_before : (o : ℕ) → o < end → marks_at new (slice_index places o) ≡ marks_at now (slice_index places o)
    done_before o lt = marks_other now (slice_index places end) (slice_index places o) marks (λ same. let e : o ≡ end = are.once o end (omega (arith, lt, in_range)) in_range same in omega (arith, lt, e))

    pub done_put : (f : PlainMarks → ℕ → PlainMarks) → marks ≡ f (open_at initial (slice_index places end)) end
        → ((o : ℕ) → from ≤ o → o < end → marks_at now (slice_index places o) ≡ f (open_at initial (slice_index places o)) o)
        → (o : ℕ) → from ≤ o → o < end + 1 → marks_at new (slice_index places o) ≡ f (open_at initial (slice_index places o)) o
    done_put f here before o le lt = elim (cases_eq o end) [
      | inl e ↦ subst (λ (p : ℕ). marks_at new (slice_index places p) ≡ f (open_at initial (slice_index places p)) p) (sym e) (done_here ∙ here)
      | inr ne ↦ let o_lt : o < end = omega (arith, lt, ne) in done_before o o_lt ∙ before o le o_lt
    ]

pub contains_at : (places : List ℕ) (o x : ℕ) → o < length places → slice_index places o ≡ x → Contains places x
contains_at places o x lt same = subst (λ (y : ℕ). Contains places y) same (Contains-get_or places o 0 lt)

-- Marks put at the center behind all others.
module _ (places : List ℕ) (initial now : List PlainMarks) (are : ArePlaces (length initial) places) (center from to : ℕ) (is : IsStar (length places) center from to) (one_each : length now ≡ length initial)
    (others : (x : ℕ) → ((o : ℕ) → from ≤ o → o < to → slice_index places o ≡ x → ⊥) → marks_at now x ≡ marks_at initial x) (marks : PlainMarks) where
  abbrev whole : List PlainMarks
  whole = set now (slice_index places center) marks

  pub star_elsewhere : AreElsewhere places initial whole
  star_elsewhere = record {
    one_each = length-set now (slice_index places center) marks ∙ one_each;
    others = λ x none.
        marks_other now (slice_index places center) x marks (λ same. none (contains_at places center x is.center_in (sym same)))
        ∙ others x (λ o le lt same. none (contains_at places o x (omega (arith, lt, is.spokes_in)) same));
  }

  pub at_center : marks_at whole (slice_index places center) ≡ marks
  at_center = marks_here now (slice_index places center) marks (omega (arith, are.in_range center is.center_in, one_each))

  pub at_spoke : (o : ℕ) → from ≤ o → o < to → marks_at whole (slice_index places o) ≡ marks_at now (slice_index places o)
  at_spoke o le lt = marks_other now (slice_index places center) (slice_index places o) marks (λ same. is.outside o le lt (are.once o center (omega (arith, lt, is.spokes_in)) is.center_in same))
