-- While which states ends can flow.
use Rattle.std.specs.Prelude.{ℕ, ◌<◌, ◌≡◌, ◌↔◌, Option, IsSome, length}
use Rattle.reo_values.specs.declared.value.Value.{Value}
use Rattle.reo_net_base.specs.declared.mark.Mark.TheVariants.{F}
use Rattle.reo_net_base.specs.Behaviour.{Behaviour}
use Rattle.reo_buffers.specs.Stored.{Stored}
use Rattle.reo_kinds.specs.declared.kind.Kind.{Kind}
use Rattle.reo_kinds.specs.declared.kind.Kind.TheVariants.{Store, Shift, Variable, Quota}
use Rattle.reo_kinds.specs.Kinds.{behaviour_of}

-- By some row of the side an end flows.
abbrev pub FlowsBySome : Behaviour → ℕ → Type 0
FlowsBySome b end = (row : ℕ) × (row < b.rows (b.side_of end)) × (b.mark (b.side_of end) row end ≡ F)

abbrev pub CanFlow : Kind → ℕ → Type 0
CanFlow kind end = FlowsBySome (behaviour_of kind) end

-- Buffers by how much they hold, variables by whether they hold something, quotas by how many are left.
pub record EndsFlowWhileTheyCan : Type 0 where
  pub buffer_takes : (buffer : Stored) → CanFlow (Store buffer) 0 ↔ (length buffer.items < buffer.size)
  pub buffer_gives : (buffer : Stored) → CanFlow (Store buffer) 1 ↔ (0 < length buffer.items)
  pub shift_takes : (buffer : Stored) → CanFlow (Shift buffer) 0
  pub shift_gives : (buffer : Stored) → CanFlow (Shift buffer) 1 ↔ (0 < length buffer.items)
  pub variable_takes : (held : Option Value) → CanFlow (Variable held) 0
  pub variable_gives : (held : Option Value) → CanFlow (Variable held) 1 ↔ IsSome held
  pub quota_flows : (left : ℕ) → CanFlow (Quota left) 0 ↔ (0 < left)
