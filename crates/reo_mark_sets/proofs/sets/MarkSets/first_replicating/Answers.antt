use Rattle.std.proofs.Common.{◌≡◌, ◌∙◌, ℕ, ◌<◌, ◌≤◌, ◌+◌, Bool, false, Option, ap, sym, subst, slice_index}
use Rattle.std.specs.Prelude.{MatchOption}
use Rattle.reo_mark_sets.specs.declared.marks.PlainMarks.{PlainMarks}
use Rattle.reo_mark_sets.specs.PlainMarks.{marks_at}
use Rattle.reo_mark_sets.specs.Tallies.{IsFirstBetween}
use Rattle.reo_mark_sets.proofs.Chosen.{output_first}
use Rattle.reo_mark_sets.proofs.sets.MarkSets.first_replicating.Goals as goal

abbrev Found : (ℕ → Bool) → ℕ → ℕ → Option ℕ → Type 0
Found test from to r = MatchOption r ((o : ℕ) → from ≤ o → o < to → test o ≡ false) (IsFirstBetween test from to)

pub returns-in-Some : goal.returns-in-Some
returns-in-Some c =
    let test : ℕ → Bool = λ o. (marks_at c.args.self.now (slice_index c.args.places.now o)).required in
    output_first c.args.branches c.args.places.now c.requires.width c.args.self.now (ap (λ (m : PlainMarks). m.flow) (sym c.at-input.ensures) ∙ c.if-input.false) (ap (λ (m : PlainMarks). m.required) (sym c.at-input.ensures) ∙ c.if-input-2.false)
    c.in-Some.output (subst (Found test 1 (c.args.branches.count + 1)) c.in-Some.is c.first_with.ensures)
