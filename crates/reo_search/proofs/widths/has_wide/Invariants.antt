use Rattle.std.proofs.Common.{◌≡◌, ◌<◌, ℕ, true, get_or}
use Rattle.reo_net_base.specs.Net.{net_of}
use Rattle.reo_side_tables.specs.Marks.{IsJointOf}
use Rattle.reo_reach.specs.Supplied.{is_wide}
use Rattle.reo_search.proofs.widths.has_wide.Given as goal

abbrev pub invariant-loop-side : goal.invariant-loop-side
invariant-loop-side g l = (m j : ℕ) → m < l.side-index → IsJointOf (net_of g.P.Primitive.behaviour l.fn.circuit) (get_or l.sides m 0) j → is_wide l.supply j ≡ true → ⊥
