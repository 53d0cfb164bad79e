-- What a round does at the ends of a kind with two ends: end 0 takes in, and end 1 gives.
use Rattle.std.specs.Prelude.{ℕ, zero, suc, Bool, cond, Option, None}
use Rattle.reo_values.specs.declared.value.Value.{Value}
use Rattle.reo_net_base.specs.declared.colouring.Chosen.{Chosen}
use Rattle.reo_net_base.specs.Marks.{is_flow}
use Rattle.reo_kinds.specs.declared.kind.Kind.{Kind}
use Rattle.reo_kinds.specs.Kinds.{behaviour_of}

-- The row of a side.
abbrev pub row_of : Chosen → ℕ → ℕ
row_of rows zero = rows.first
row_of rows (suc side) = rows.second

-- The row of the side of an end.
abbrev pub row_at : Kind → Chosen → ℕ → ℕ
row_at kind rows end = row_of rows ((behaviour_of kind).side_of end)

-- Whether an end flows.
abbrev pub flows_at : Kind → Chosen → ℕ → Bool
flows_at kind rows end = is_flow ((behaviour_of kind).mark ((behaviour_of kind).side_of end) (row_at kind rows end) end)

-- The item that comes in, where end 0 flows.
abbrev pub came_in : Kind → Chosen → Option Value → Option Value
came_in kind rows item = cond (flows_at kind rows 0) item None

-- The item that the state gives, where end 1 flows.
abbrev pub given_out : Kind → Chosen → Option Value
given_out kind rows = cond (flows_at kind rows 1) ((behaviour_of kind).given ((behaviour_of kind).side_of 1) (row_at kind rows 1) 1 None) None
