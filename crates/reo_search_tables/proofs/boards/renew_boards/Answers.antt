use Rattle.std.proofs.Common.{ℕ, ◌<◌, List, length, get_or, set, sym, subst, arith}
use Rattle.reo_net_base.specs.Net.{Net, net_of}
use Rattle.reo_side_tables.specs.declared.board.Board.{Board}
use Rattle.reo_side_tables.specs.Boards.{IsBoard}
use Rattle.reo_search_tables.proofs.Among.{among_at}
use Rattle.reo_search_tables.proofs.Renewed.{IsPut, set_put, set_here, stays_more, right_more}
use Rattle.reo_search_tables.proofs.boards.renew_boards.Goals as goal

pub board_of-requires-clause-side : goal.board_of-requires-clause-side
board_of-requires-clause-side g c = c.requires.sides (get_or c.args.sides.now c.loop-side.side-index 0) (among_at c.args.sides.now c.loop-side.side-index c.loop-side-test.true)

pub at_mut-requires : goal.at_mut-requires
at_mut-requires g c =
    let lt = c.requires.sides (get_or c.args.sides.now c.loop-side.side-index 0) (among_at c.args.sides.now c.loop-side.side-index c.loop-side-test.true) in
    omega (arith, lt, c.requires.one_each, c.loop-side.invariant.stays.one_each)

pub loop-side-preserved : goal.loop-side-preserved
loop-side-preserved g c =
    let net : Net = net_of g.P.Primitive.behaviour c.args.circuit.now in
    let sides : List ℕ = c.args.sides.now in
    let n : ℕ = c.loop-side.side-index in
    let side : ℕ = get_or c.args.sides.now c.loop-side.side-index 0 in
    let now : List Board = c.loop-side.boards in
    let board : Board = c.in_ok-board.board in
    let same = c.loop-side.invariant.stays.one_each in
    let side_lt = c.requires.sides side (among_at sides n c.loop-side-test.true) in
    let side_in : side < length now = omega (arith, side_lt, c.requires.one_each, same) in
    let put : IsPut side now (set now side board) = set_put side board now in
    record {
      stays = stays_more sides n c.args.boards.now now (set now side board) c.loop-side-test.true c.loop-side.invariant.stays put;
      right = right_more sides n (IsBoard net) now (set now side board) (λ s h. let s_lt = c.requires.sides s h in omega (arith, s_lt, c.requires.one_each, same)) c.loop-side-test.true c.loop-side.invariant.right put
          (λ d. subst (λ (b : Board). IsBoard net side b) (sym (set_here side board now side_in d)) c.in_ok-board.ensures);
    }
