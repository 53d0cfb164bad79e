use Rattle.std.proofs.Common.{◌≡◌, ◌∙◌, ℕ, ◌<◌, Option, ap, sym, subst, set, slice_index, refl, arith, List, false}
use Rattle.std.proofs.lemmas.Bool.{not-true}
use Rattle.std.specs.Prelude.{MatchOption}
use Rattle.reo_mark_sets.specs.declared.marks.PlainMarks.{PlainMarks}
use Rattle.reo_mark_sets.specs.PlainMarks.{marks_at, both}
use Rattle.reo_mark_sets.specs.Tallies.{IsFirstInTurn}
use Rattle.reo_mark_sets.proofs.Classed.{unchanged, flowing, stopping}
use Rattle.reo_mark_sets.proofs.sets.MarkSets.class_merging.Goals as goal

pub returns-then-not-at : goal.returns-then-not-at
returns-then-not-at c =
    let some : 0 < c.args.branches.count = omega arith in
    let still : c.at.result.flow ≡ false = not-true c.at.result.flow c.if-not-at.true in
    unchanged c.args.branches c.args.places.now c.requires.width some c.args.self.now (ap (λ (m : PlainMarks). m.flow) (sym c.at.ensures) ∙ still) c.args.turn

pub returns-in-Some : goal.returns-in-Some
returns-in-Some c =
    let some : 0 < c.args.branches.count = omega arith in
    let P : List ℕ = c.args.places.now in
    let S : List PlainMarks = c.args.self.now in
    let T : List PlainMarks = c.restrict.new.self in
    let found = subst (λ (r : Option ℕ). MatchOption r ((o : ℕ) → o < c.args.branches.count → (marks_at S (slice_index P o)).flow ≡ false) (IsFirstInTurn (λ o. (marks_at S (slice_index P o)).flow) c.args.branches.count c.args.turn)) c.in-Some.is c.first_in_turn.ensures in
    flowing c.args.branches P c.requires.width some c.args.turn S T c.restrict-in-Some.new.self c.in-Some.input c.requires.places found
    (c.restrict.ensures ∙ ap (λ (m : PlainMarks). set S (slice_index P c.in-Some.input) (both (marks_at S (slice_index P c.in-Some.input)) m)) c.just.ensures)
    (c.restrict-in-Some.ensures ∙ ap (λ (m : PlainMarks). set T (slice_index P c.args.branches.count) (both (marks_at T (slice_index P c.args.branches.count)) m)) c.just-in-Some.ensures)

pub returns-in-None : goal.returns-in-None
returns-in-None c =
    let some : 0 < c.args.branches.count = omega arith in
    let P : List ℕ = c.args.places.now in
    let S : List PlainMarks = c.args.self.now in
    let none = subst (λ (r : Option ℕ). MatchOption r ((o : ℕ) → o < c.args.branches.count → (marks_at S (slice_index P o)).flow ≡ false) (IsFirstInTurn (λ o. (marks_at S (slice_index P o)).flow) c.args.branches.count c.args.turn)) c.in-None.is c.first_in_turn.ensures in
    stopping c.args.branches P c.requires.width some c.args.turn S c.restrict-in-None.new.self _ c.requires.places none refl refl refl c.restrict-in-None.ensures
