-- Reading the joints of a side out of its board.
use Rattle.std.proofs.Common.{◌≡◌, ℕ, ◌<◌, List, [], length, get_or, ap, sym, ◌∙◌, subst, arith}
use Rattle.std.proofs.lemmas.List.{get_or_default}
use Rattle.reo_net_base.specs.declared.joint.End.{End}
use Rattle.reo_net_base.specs.Behaviour.{IsEndOf}
use Rattle.reo_net_base.specs.Net.{Net, Side, all_sides, no_side}
use Rattle.reo_net_base.specs.Sides.{side_count}
use Rattle.reo_net_base.specs.Wired.{IsWired}
use Rattle.reo_net_laws.specs.Ends.{IsRowOf}
use Rattle.reo_side_tables.specs.declared.board.Board.{Board}
use Rattle.reo_side_tables.specs.declared.board.Flow.{Flow}
use Rattle.reo_side_tables.specs.Boards.{IsFlow, IsBoard, AreBoards}
use Rattle.reo_side_tables.specs.Listing.{Lists}
use Rattle.reo_side_tables.specs.Marks.{common_in, end_at, common_at_joint, IsJointOf, IsApartAt}
use Rattle.reo_side_tables.proofs.Sides.{end_of_side}

-- The board of a side.
pub board_is : (net : Net) (boards : List Board) → AreBoards net boards → (side : ℕ) → side < side_count net → (board : Board) → board ≡ get_or boards side board → IsBoard net side board
board_is net boards are side lt board is = subst (λ (b : Board). IsBoard net side b) (sym is) (are.each side board lt)

-- A joint of its list.
pub record IsRead (net : Net) (side : ℕ) (joints : List ℕ) (m j : ℕ) : Type 0 where
  pub of_side : IsJointOf net side j
  pub is : j ≡ get_or joints m 0

pub read : (net : Net) (side : ℕ) (board : Board) → IsBoard net side board → (m j : ℕ) → m < length board.joints → j ≡ get_or board.joints m j → IsRead net side board.joints m j
read net side board are m j lt is =
    let here : j ≡ get_or board.joints m 0 = is ∙ get_or_default board.joints m j 0 lt in
    record { of_side = subst (λ (k : ℕ). IsJointOf net side k) (sym here) (are.joints.sound m lt); is = here }

-- The end of a joint, as it was found.
module _ (net : Net) (wired : IsWired net) (side j : ℕ) (of : IsJointOf net side j) (end : End) (is : end ≡ end_at net side j) where
  pub end_read : (d : Side) → IsEndOf (get_or (all_sides net.primitives) side d).of (get_or (all_sides net.primitives) side d).number end.end
  end_read d = subst (λ (x : End). IsEndOf (get_or (all_sides net.primitives) side d).of (get_or (all_sides net.primitives) side d).number x.end) (sym is) (end_of_side net wired side j of d)

  pub common_read : (group : ℕ) → common_in net side group end.end ≡ common_at_joint net side group j
  common_read group = ap (λ (x : End). common_in net side group x.end) is

-- Where a row flows.
pub flow_read : (net : Net) (side : ℕ) (board : Board) → IsBoard net side board → (row : ℕ) → IsRowOf net side row → (flow : Flow) → flow ≡ get_or board.flows row flow → IsFlow net side row flow
flow_read net side board are row in_table flow is =
    let lt : row < length board.flows = omega (arith, are.one_each, in_table no_side) in
    subst (λ (f : Flow). IsFlow net side row f) (sym is) (are.flows row flow lt)

-- The rows that are apart at an end.
pub apart_read : (net : Net) (side : ℕ) (board : Board) → IsBoard net side board → (end : ℕ) → end < length board.apart → (list : List ℕ) → list ≡ get_or board.apart end list → Lists (IsApartAt net side end) list
apart_read net side board are end lt list is = subst (λ (l : List ℕ). Lists (IsApartAt net side end) l) (sym (is ∙ get_or_default board.apart end list [] lt)) (are.apart end)
