use Rattle.std.proofs.Common.{◌≡◌, ℕ, ◌<◌, ◌+◌, inl, inr, subst, sym, ap, ◌∙◌, arith, List, length, length-append, get_or, [], ◌∷◌, ◌++◌}
use Rattle.std.proofs.lemmas.Bool.{cases_eq}
use Rattle.std.proofs.Math.Seq.{get_or-append_seam}
use Rattle.std.proofs.lemmas.List.{get_or_append_left}
use Rattle.reo_net_base.specs.Net.{Net, net_of}
use Rattle.reo_side_tables.specs.declared.board.Board.{Board}
use Rattle.reo_side_tables.specs.Boards.{IsBoard, AreBoardsBelow}
use Rattle.reo_side_tables.proofs.board.boards_of.Goals as goal

-- One board more.
more : (net : Net) (n : ℕ) (boards : List Board) (board : Board) → AreBoardsBelow net n boards → IsBoard net n board → AreBoardsBelow net (n + 1) (boards ++ board ∷ [])
more net n boards board are is = record {
  one_each = length-append boards (board ∷ []) ∙ ap (λ (x : ℕ). x + 1) are.one_each;
  each = λ side d lt. elim (cases_eq side n) [
    | inl same ↦
        let last : side ≡ length boards = omega (arith, same, are.one_each) in
        subst (λ (s : ℕ). IsBoard net s (get_or (boards ++ board ∷ []) side d)) (sym same) (subst (IsBoard net n) (sym (rw last (get_or-append_seam boards board [] d))) is)
    | inr other ↦
        let before : side < length boards = omega (arith, are.one_each) in
        subst (IsBoard net side) (sym (get_or_append_left boards (board ∷ []) d side before)) (are.each side d (omega arith))
  ];
}

pub loop-side-preserved : goal.loop-side-preserved
loop-side-preserved g c =
    let net : Net = net_of g.P.Primitive.behaviour c.args.circuit.now in
    subst (AreBoardsBelow net (c.loop-side.side + 1)) (sym c.in_ok-push.ensures.ok) (more net c.loop-side.side c.loop-side.boards c.in_ok-board_of.field-0 c.loop-side.invariant c.in_ok-board_of.ensures)
