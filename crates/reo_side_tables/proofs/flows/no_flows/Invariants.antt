use Rattle.reo_side_tables.specs.Flowing.{AreBlank}
use Rattle.reo_side_tables.proofs.flows.no_flows.Given as goal

abbrev pub invariant-loop-row : goal.invariant-loop-row
invariant-loop-row l = AreBlank l._row l.flows
