-- What a round leaves of what is kept.
use Rattle.std.specs.Prelude.{◌≡◌, ◌+◌, ◌++◌, ◌&&◌, ℕ, Bool, true, false, not, cond, List, [], Option, Some, None, is_some, option_to_list, slice_get}
use Rattle.reo_values.specs.declared.value.Value.{Value}
use Rattle.reo_net_base.specs.declared.colouring.Chosen.{Chosen}
use Rattle.reo_buffers.specs.Stored.{Stored, IsBuffer, is_full}
use Rattle.reo_kinds.specs.declared.kind.Kind.{Kind}
use Rattle.reo_kinds.specs.declared.kind.Kind.TheVariants.{Store, Shift, Variable, Quota}
use Rattle.reo_kinds.specs.Kinds.{settled_kind}
use Rattle.reo_kinds_laws.specs.Rounds.{flows_at, came_in, given_out}

-- A buffer goes on as a buffer of its size: what is lost, then what is given, and then what is held are what was held and
-- then what came in.
pub record KeepsOrder (make : Stored → Kind) (buffer : Stored) (rows : Chosen) (item : Option Value) (lost : List Value) : Type 0 where
  pub later : Stored
  pub is_left : settled_kind (make buffer) rows item ≡ make later
  pub size_stays : later.size ≡ buffer.size
  pub in_order : lost ++ (option_to_list (given_out (make buffer) rows) ++ later.items) ≡ buffer.items ++ option_to_list (came_in (make buffer) rows item)
  pub is_buffer : IsBuffer later

-- A buffer loses nothing.
abbrev pub BuffersKeepOrder : Type 0
BuffersKeepOrder = (buffer : Stored) (rows : Chosen) (item : Option Value) → IsBuffer buffer → KeepsOrder Store buffer rows item []

-- Whether an item comes into a shift buffer that is full and gives none.
abbrev pub overflows : Stored → Chosen → Option Value → Bool
overflows buffer rows item = is_full buffer && (is_some (came_in (Shift buffer) rows item) && not (is_some (given_out (Shift buffer) rows)))

-- Then a shift buffer loses its front, and else nothing.
abbrev pub ShiftsLoseFronts : Type 0
ShiftsLoseFronts = (buffer : Stored) (rows : Chosen) (item : Option Value) → IsBuffer buffer
    → KeepsOrder Shift buffer rows item (cond (overflows buffer rows item) (option_to_list (slice_get buffer.items 0)) [])

-- What a variable gives, and what it holds after an item came in or none did.
pub record Holds (held : Option Value) (rows : Chosen) (item : Option Value) : Type 0 where
  pub gives : flows_at (Variable held) rows 1 ≡ true → given_out (Variable held) rows ≡ held
  pub replaced : (new : Value) → came_in (Variable held) rows item ≡ Some new → settled_kind (Variable held) rows item ≡ Variable (Some new)
  pub stays : came_in (Variable held) rows item ≡ None → settled_kind (Variable held) rows item ≡ Variable held

abbrev pub VariablesHold : Type 0
VariablesHold = (held : Option Value) (rows : Chosen) (item : Option Value) → Holds held rows item

-- What a quota has left after a round in which its ends flow, or in which they do not.
pub record CountsDown (left : ℕ) (rows : Chosen) (item : Option Value) : Type 0 where
  pub together : flows_at (Quota left) rows 0 ≡ flows_at (Quota left) rows 1
  pub one_less : flows_at (Quota left) rows 0 ≡ true → (fewer : ℕ) × (left ≡ fewer + 1) × (settled_kind (Quota left) rows item ≡ Quota fewer)
  pub as_many : flows_at (Quota left) rows 0 ≡ false → settled_kind (Quota left) rows item ≡ Quota left

abbrev pub QuotasCountDown : Type 0
QuotasCountDown = (left : ℕ) (rows : Chosen) (item : Option Value) → CountsDown left rows item
