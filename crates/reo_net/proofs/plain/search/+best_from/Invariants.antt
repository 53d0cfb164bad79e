use Rattle.std.proofs.Common.{◌≡◌, ◌<◌, not, true, get_or, set}
use Rattle.std.specs.List.{count_by}
use Rattle.reo_net_base.specs.Net.{net_of}
use Rattle.reo_net_base.specs.Sides.{AreRowsOf}
use Rattle.reo_net.specs.plain.Chosen.{Agrees, Improves}
use Rattle.reo_net.proofs.plain.search.+best_from.Given as goal

abbrev pub decreases-best_from : goal.decreases-best_from
decreases-best_from g a = count_by not a.chosen.now

-- The best so far is no worse than the old, nor than all that go on with a row that was tried.
abbrev pub invariant-loop-row : goal.invariant-loop-row
invariant-loop-row g l = record {
  chosen : l.chosen ≡ set l.fn.chosen l.side true;
  rows : AreRowsOf (net_of g.P.Primitive.behaviour l.circuit) l.rows;
  agree : Agrees l.fn.chosen l.fn.rows l.rows;
  best : Improves (net_of g.P.Primitive.behaviour l.circuit) l.turn (λ others. Agrees l.fn.chosen l.fn.rows others × (get_or others l.side 0 < l.row)) l.fn.best.rows l.best.rows l.best.items;
}
