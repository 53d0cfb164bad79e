use Rattle.std.proofs.Common.{◌+◌, ◌≤◌, ℕ}
use Rattle.reo_net_base.specs.Net.{net_of}
use Rattle.reo_planning.specs.Planned.{AreWeights, sum_below, weight_left}
use Rattle.reo_search_tables.specs.SearchTables.{AreReady}
use Rattle.reo_planning.proofs.Parting.{ArePlannedSoFar}
use Rattle.reo_planning.proofs.planning.rows_with.Given as goal

-- The parts so far are planned, and those that come have the rows that are kept.
abbrev pub invariant-loop-knot : goal.invariant-loop-knot
invariant-loop-knot g l = record {
  far : ArePlannedSoFar l.planning.budget (net_of g.P.Primitive.behaviour l.planning.circuit.now) l.planning.knots.now l.planning.turn l.knot l.kept.rows l.rows;
  ready : AreReady (net_of g.P.Primitive.behaviour l.planning.circuit.now) l.planning.ends.now l.tables;
  ticks : (weights : ℕ → ℕ) → AreWeights (net_of g.P.Primitive.behaviour l.planning.circuit.now) l.planning.knots.now weights → l.steps ≤ l.initial.steps + sum_below l.knot (weight_left l.kept l.planning.budget weights);
}
