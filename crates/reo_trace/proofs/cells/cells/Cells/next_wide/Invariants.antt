use Rattle.std.proofs.Common.{◌≡◌, ◌<◌, ◌≤◌, ℕ, false, get_or}
use Rattle.reo_trace.specs.cells.Texts.{is_wide}
use Rattle.reo_trace.proofs.cells.cells.Cells.next_wide.Given as goal

-- No cell so far is wide.
abbrev pub invariant-loop-place : goal.invariant-loop-place
invariant-loop-place l = (i : ℕ) → l.from ≤ i → i < l.place → is_wide (get_or l.self.shown i 0) ≡ false
