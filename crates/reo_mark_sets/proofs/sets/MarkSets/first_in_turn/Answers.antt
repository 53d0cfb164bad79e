use Rattle.std.proofs.Common.{◌≡◌, ℕ, ◌<◌, ◌≤◌, Bool, false, Option, subst, slice_index, arith}
use Rattle.std.specs.Prelude.{MatchOption}
use Rattle.reo_net_base.specs.Branching.{beginning}
use Rattle.reo_mark_sets.specs.PlainMarks.{marks_at}
use Rattle.reo_mark_sets.specs.Tallies.{IsFirstBetween}
use Rattle.reo_mark_sets.proofs.Classed.{turn_after, turn_either}
use Rattle.reo_mark_sets.proofs.sets.MarkSets.first_in_turn.Goals as goal

abbrev Found : (ℕ → Bool) → ℕ → ℕ → Option ℕ → Type 0
Found test from to r = MatchOption r ((o : ℕ) → from ≤ o → o < to → test o ≡ false) (IsFirstBetween test from to)

pub returns-in-Some : goal.returns-in-Some
returns-in-Some c =
    let some : 0 < c.args.branches.count = omega arith in
    let test : ℕ → Bool = λ o. (marks_at c.args.self.now (slice_index c.args.places.now o)).flow in
    let found = subst (λ (b : ℕ). Found test b c.args.branches.count c.first_with.result) c.beginning-begins.ensures c.first_with.ensures in
    turn_after c.args.branches.count c.args.turn some test c.in-Some.input (subst (Found test (beginning c.args.branches.count c.args.turn) c.args.branches.count) c.in-Some.is found)

pub returns-in-None : goal.returns-in-None
returns-in-None c =
    let some : 0 < c.args.branches.count = omega arith in
    let test : ℕ → Bool = λ o. (marks_at c.args.self.now (slice_index c.args.places.now o)).flow in
    let none = subst (λ (b : ℕ). Found test b c.args.branches.count c.first_with.result) c.beginning-begins.ensures c.first_with.ensures in
    let next = subst (λ (b : ℕ). Found test 0 b c.first_with-in-None.result) c.beginning-begins.ensures c.first_with-in-None.ensures in
    turn_either c.args.branches.count c.args.turn some test c.first_with-in-None.result (subst (Found test (beginning c.args.branches.count c.args.turn) c.args.branches.count) c.in-None.is none) next
