use Rattle.reo_net_base.specs.Net.{net_of}
use Rattle.reo_side_tables.specs.Boards.{IsBoard}
use Rattle.reo_search_tables.specs.Renewing.{AreRightAt, StaysBesides}
use Rattle.reo_search_tables.proofs.boards.renew_boards.Given as goal

-- The boards of the sides so far are made.
abbrev pub invariant-loop-side : goal.invariant-loop-side
invariant-loop-side g l = record {
  stays : StaysBesides l.sides l.initial.boards l.boards;
  right : AreRightAt l.sides l.side-index (IsBoard (net_of g.P.Primitive.behaviour l.circuit)) l.boards;
}
