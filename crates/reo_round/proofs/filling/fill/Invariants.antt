use Rattle.std.proofs.Common.{◌≡◌, ◌≤◌, ◌-◌, List, length}
use Rattle.std.specs.Prelude.{Option}
use Rattle.reo_values.specs.declared.value.Value.{Value}
use Rattle.reo_net_base.specs.Colouring.{IsColouring}
use Rattle.reo_net_base.specs.Net.{net_of}
use Rattle.reo_round.proofs.Filled.{IsFilledBelow}
use Rattle.reo_round.proofs.filling.fill.Given as goal

-- The parts so far have their items.
abbrev pub invariant-loop-part : goal.invariant-loop-part
invariant-loop-part g l = record {
  in_range : l.part ≤ length l.moving;
  count : length l.items ≡ length l.circuit.joints;
  far : (others : List (Option Value)) → IsColouring (net_of g.P.Primitive.behaviour l.circuit) l.rows others
      → IsFilledBelow (net_of g.P.Primitive.behaviour l.circuit) l.knots others l.part l.items l.flowing;
}

abbrev pub decreases-loop-part : goal.decreases-loop-part
decreases-loop-part g l = length l.moving - l.part
