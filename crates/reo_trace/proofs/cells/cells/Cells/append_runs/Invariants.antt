use Rattle.std.proofs.Common.{◌≡◌, ◌++◌, ◌-◌, ◌≤◌, length}
use Rattle.reo_net_base.specs.Net.{Net}
use Rattle.reo_trace.specs.cells.Cells.{AreCells}
use Rattle.reo_trace.specs.cells.Texts.{IsNextWide, befores, cells_text}
use Rattle.reo_trace.proofs.cells.Kept.{text_from}
use Rattle.reo_trace.proofs.cells.cells.Cells.append_runs.Given as goal

-- With the text of the cells that are left it is that of all.
abbrev pub invariant-loop-place : goal.invariant-loop-place
invariant-loop-place l = record {
  from : l.from ≤ l.place;
  next : IsNextWide l.self.shown l.from l.place;
  text : (net : Net) → AreCells net l.self → l.text ++ text_from (befores net) l.self.shown l.from ≡ l.initial.text ++ cells_text (befores net) l.self.shown;
}

abbrev pub decreases-loop-place : goal.decreases-loop-place
decreases-loop-place l = length l.self.shown - l.place
