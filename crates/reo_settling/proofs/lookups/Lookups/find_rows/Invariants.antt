use Rattle.std.proofs.Common.{◌≡◌, ◌+◌, ◌-◌, ◌≤◌, ℕ, false}
use Rattle.reo_net_base.specs.Net.{net_of}
use Rattle.reo_net_laws.specs.Knots.{knot_count}
use Rattle.reo_part_plans.specs.Plannings.{AreWeights, sum_below, weight_left}
use Rattle.reo_settling.specs.Lookups.{AreSteady}
use Rattle.reo_settling.proofs.Served.{AreSettledFar}
use Rattle.reo_settling.proofs.lookups.Lookups.find_rows.Given as goal

-- The parts so far are planned, and those that come have the rows that are kept.
abbrev pub invariant-loop-part : goal.invariant-loop-part
invariant-loop-part g l = record {
  in_range : l.part ≤ knot_count l.planning.knots.now;
  far : AreSettledFar l.planning.budget (net_of g.P.Primitive.behaviour l.planning.circuit.now) l.planning.knots.now l.planning.turn l.kept l.told l.part l.rows l.self.flowing;
  untold : l.self.told ≡ false;
  steady : AreSteady (net_of g.P.Primitive.behaviour l.planning.circuit.now) l.planning.knots.now l.self;
  ticks : (weights : ℕ → ℕ) → AreWeights (net_of g.P.Primitive.behaviour l.planning.circuit.now) l.planning.knots.now weights → l.steps ≤ l.initial.steps + sum_below l.part (weight_left l.kept l.planning.budget weights);
}

abbrev pub decreases-loop-part : goal.decreases-loop-part
decreases-loop-part g l = knot_count l.planning.knots.now - l.part
