use Rattle.std.proofs.Common.{◌≡◌, ◌<◌, ℕ, length, get_or}
use Rattle.reo_net_base.specs.Net.{net_of}
use Rattle.reo_net_laws.specs.Ends.{mark_in}
use Rattle.reo_side_tables.specs.Marks.{byte_of}
use Rattle.reo_refute_live.proofs.support.columns.marks_at.Given as goal

-- The bytes of the rows so far.
abbrev pub invariant-loop-row : goal.invariant-loop-row
invariant-loop-row g l = record {
  one_each : length l.marks ≡ l.row;
  exact : (k : ℕ) → k < l.row → get_or l.marks k 0 ≡ byte_of (mark_in (net_of g.P.Primitive.behaviour l.circuit) k l.end);
}
