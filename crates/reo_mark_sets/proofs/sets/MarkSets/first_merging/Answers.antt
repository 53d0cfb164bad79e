use Rattle.std.proofs.Common.{◌≡◌, ◌∙◌, ℕ, ◌<◌, ◌≤◌, Bool, false, Option, ap, sym, subst, slice_index, arith}
use Rattle.std.proofs.lemmas.Bool.{not-true}
use Rattle.std.specs.Prelude.{MatchOption}
use Rattle.reo_mark_sets.specs.declared.marks.PlainMarks.{PlainMarks}
use Rattle.reo_mark_sets.specs.PlainMarks.{marks_at}
use Rattle.reo_mark_sets.specs.Tallies.{IsFirstBetween}
use Rattle.reo_mark_sets.proofs.Chosen.{no_output_first, no_input_first, input_first}
use Rattle.reo_mark_sets.proofs.sets.MarkSets.first_merging.Goals as goal

abbrev Found : (ℕ → Bool) → ℕ → ℕ → Option ℕ → Type 0
Found test from to r = MatchOption r ((o : ℕ) → from ≤ o → o < to → test o ≡ false) (IsFirstBetween test from to)

pub returns-then-not-output : goal.returns-then-not-output
returns-then-not-output c =
    let some : 0 < c.args.branches.count = omega arith in
    no_output_first c.args.branches c.args.places.now c.requires.width some c.args.self.now (ap (λ (m : PlainMarks). m.flow) (sym c.at-output.ensures) ∙ not-true c.at-output.result.flow c.if-not-output.true) c.at-output.result c.at-output.ensures c.still_row.result c.still_row.ensures

pub returns-in-Some : goal.returns-in-Some
returns-in-Some c =
    let some : 0 < c.args.branches.count = omega arith in
    let test : ℕ → Bool = λ o. (marks_at c.args.self.now (slice_index c.args.places.now o)).flow in
    input_first c.args.branches c.args.places.now c.requires.width some c.args.self.now c.in-Some.input (subst (Found test 0 c.args.branches.count) c.in-Some.is c.first_with.ensures)

pub returns-in-None : goal.returns-in-None
returns-in-None c =
    let some : 0 < c.args.branches.count = omega arith in
    let test : ℕ → Bool = λ o. (marks_at c.args.self.now (slice_index c.args.places.now o)).flow in
    no_input_first c.args.branches c.args.places.now c.requires.width some c.args.self.now (subst (Found test 0 c.args.branches.count) c.in-None.is c.first_with.ensures) c.at-output.result c.at-output.ensures c.still_row-in-None.result c.still_row-in-None.ensures
