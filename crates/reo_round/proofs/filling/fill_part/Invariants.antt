use Rattle.std.proofs.Common.{List}
use Rattle.std.specs.Prelude.{Option}
use Rattle.reo_values.specs.declared.value.Value.{Value}
use Rattle.reo_net_base.specs.Colouring.{IsColouring}
use Rattle.reo_net_base.specs.Net.{net_of}
use Rattle.reo_net_laws.specs.Knots.{in_knot}
use Rattle.reo_round.proofs.Putting.{IsFilledFar}
use Rattle.reo_round.proofs.filling.fill_part.Given as goal

-- The joints so far have their items.
abbrev pub invariant-loop-index : goal.invariant-loop-index
invariant-loop-index g l = (others : List (Option Value)) → IsColouring (net_of g.P.Primitive.behaviour l.circuit) l.rows others
    → IsFilledFar (net_of g.P.Primitive.behaviour l.circuit) (in_knot l.knots.numbers l.part) l.rows l.joints l.index others l.initial.items l.items l.flowing
