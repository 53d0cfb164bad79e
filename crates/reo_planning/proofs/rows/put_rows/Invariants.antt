use Rattle.std.proofs.Common.{◌≡◌, ℕ, List, length, take}
use Rattle.reo_net_laws.specs.Sublists.{part_rows}
use Rattle.reo_planning.specs.Written.{AreWritten}
use Rattle.reo_planning.proofs.rows.put_rows.Given as goal

-- The rows of the first sides of the part are written down.
abbrev pub invariant-loop-index : goal.invariant-loop-index
invariant-loop-index l = record {
  one_each : length l.rows ≡ length l.initial.rows;
  written : (from : List ℕ) → l.those ≡ part_rows l.sides from → AreWritten (take l.index l.sides) from l.initial.rows l.rows;
}
