use Rattle.reo_net_base.specs.Net.{net_of}
use Rattle.reo_side_tables.specs.Boards.{AreBoardsBelow}
use Rattle.reo_side_tables.proofs.board.boards_of.Given as goal

abbrev pub invariant-loop-side : goal.invariant-loop-side
invariant-loop-side g l = AreBoardsBelow (net_of g.P.Primitive.behaviour l.circuit) l.side l.boards
