use Rattle.std.proofs.Common.{◌∙◌, ℕ, ap, sym}
use Rattle.std.specs.Prelude.{nat_lt}
use Rattle.reo_players.specs.declared.marks.Paces.{Paces}
use Rattle.reo_players.specs.Pacing.{clock_at, each_shown}
use Rattle.reo_players.proofs.Marked.{counting_is}
use Rattle.reo_players.proofs.Paces.{length-shown, marks-shown}
use Rattle.reo_players.proofs.players.Players.someone_counts.Goals as goal

pub returns : goal.returns
returns c =
    let p = c.self.inside in
    let clock = clock_at p.clock p.passed in
    rw (← c.self.view_is)
    (ap (λ (n : ℕ). nat_lt c.next_set.result n) (c.len.ensures ∙ sym (length-shown clock p.players))
    ∙ counting_is (each_shown clock p.players) p.marks.counting c.next_set.result
    (ap (λ (m : Paces). m.counting) (c.self.invariant.marks_are ∙ sym (marks-shown clock p.players))) c.next_set.ensures)
