use Rattle.std.proofs.Common.{◌≢◌, ◌<◌, ℕ, get_or, Some}
use Rattle.reo_net_base.specs.Net.{net_of}
use Rattle.reo_side_tables.specs.Marks.{end_at, common_at_joint}
use Rattle.reo_rows.specs.Sets.{family_of}
use Rattle.reo_rows.specs.Stands.{HasMark}
use Rattle.reo_rows.proofs.standing.fails_besides.Given as goal

abbrev pub invariant-loop-index : goal.invariant-loop-index
invariant-loop-index g l = (m : ℕ) → m < l.index → l.besides ≢ Some (end_at (net_of g.P.Primitive.behaviour l.basis.circuit.now) l.side (get_or l.board.joints m 0)).end
    → HasMark (net_of g.P.Primitive.behaviour l.basis.circuit.now) (family_of l.alive) l.side (get_or l.board.joints m 0) (common_at_joint (net_of g.P.Primitive.behaviour l.basis.circuit.now) l.side l.group (get_or l.board.joints m 0))
