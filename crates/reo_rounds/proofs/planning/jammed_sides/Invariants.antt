use Rattle.std.proofs.Common.{◌≡◌, ◌≤◌}
use Rattle.std.specs.List.{count_by, range_with_len}
use Rattle.reo_net_base.specs.Net.{net_of}
use Rattle.reo_net_laws.specs.Jams.{jams}
use Rattle.reo_rounds.proofs.planning.jammed_sides.Given as goal

-- Those so far are counted.
abbrev pub invariant-loop-side : goal.invariant-loop-side
invariant-loop-side g l = record {
  counted : l.count ≡ count_by (jams (net_of g.P.Primitive.behaviour l.circuit) l.rows) (range_with_len 0 l.side);
  few : l.count ≤ l.side;
}
