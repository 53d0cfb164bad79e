use Rattle.std.proofs.Common.{◌≡◌, ◌<◌, ◌≤◌, ◌-◌, false, length, get_or}
use Rattle.reo_net_base.specs.Net.{net_of}
use Rattle.reo_trace.specs.cells.Cells.{AreCells}
use Rattle.reo_engine.specs.Flows.{AreShownAt, AreWrittenAt}
use Rattle.reo_engine.proofs.flows.show_rest.Given as goal

-- The parts so far are shown and written.
abbrev pub invariant-loop-part : goal.invariant-loop-part
invariant-loop-part g l = record {
  in_range : l.part ≤ length l.shown_parts;
  clear : l.part < length l.shown_parts → get_or l.shown_parts l.part false ≡ false;
  cells : AreCells (net_of g.P.Primitive.behaviour l.circuit) l.cells;
  at : AreShownAt (net_of g.P.Primitive.behaviour l.circuit) l.knots l.rows l.shown_parts l.part l.initial.cells l.cells;
  written : AreWrittenAt (net_of g.P.Primitive.behaviour l.circuit) l.knots l.rows l.shown_parts l.part l.initial.list l.list;
}

abbrev pub decreases-loop-part : goal.decreases-loop-part
decreases-loop-part g l = length l.shown_parts - l.part
