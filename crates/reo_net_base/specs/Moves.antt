-- What flows at the ports.
use Rattle.std.specs.Prelude.{ℕ, cond, Option, Some, None, List, [], ◌∷◌, slice_index_or}
use Rattle.std.specs.List.{flat_map, range_with_len, position_or_len}
use Rattle.reo_values.specs.declared.value.Value.{Value}
use Rattle.reo_net_base.specs.declared.joint.End.{End}
use Rattle.reo_net_base.specs.declared.joint.Joint.{Joint}
use Rattle.reo_net_base.specs.declared.colouring.Move.{Move}
use Rattle.reo_net_base.specs.Marks.{is_flow}
use Rattle.reo_net_base.specs.Net.{Net, mark_at, end_of, is_at}

-- The item at the joint of an end.
abbrev pub item_at : List Joint → List (Option Value) → End → Option Value
item_at joints items e = slice_index_or items (position_or_len (is_at e) joints) None

abbrev pub move_with : ℕ → Option Value → List Move
move_with port None = []
move_with port (Some item) = record { port = port; item = item } ∷ []

-- What flows at a port: the item of its joint, where its end flows.
abbrev pub moves_at : Net → List ℕ → List (Option Value) → ℕ → List Move
moves_at net rows items port = cond (is_flow (mark_at net rows (end_of port 0))) (move_with port (item_at net.joints items (end_of port 0))) []

-- What flows at the first so many primitives, in order.
abbrev pub moves_of : Net → ℕ → List ℕ → List (Option Value) → List Move
moves_of net ports rows items = flat_map (moves_at net rows items) (range_with_len 0 ports)
