-- What moved in the last round.
use Rattle.std.specs.Prelude.{ℕ, ◌≡◌, Option, Some, None, slice_get}
use Rattle.reo_net_base.specs.declared.colouring.Move.{Move}
use Rattle.reo_rounds.specs.declared.plan.Done.{Done}
use Rattle.reo_connector.specs.Items.{text_at}
use Rattle.reo_handles.specs.Texts.{IsLaid, Room}
use Rattle.reo_handles.specs.declared.session.Session.{Session}
use Rattle.reo_handles.specs.declared.status.CallStatus.{CallStatus}
use Rattle.reo_handles.specs.declared.status.CallStatus.TheVariants as statuses

-- The move of an index in a round, if there was a round and such a move.
abbrev pub move_in : Option Done → ℕ → Option Move
move_in (Some done) index = slice_get done.moves index
move_in None index = None

-- The port of a move, if there is one; nothing else changes.
abbrev pub Moved : ℕ → ℕ → ℕ → Session → Session → CallStatus → Type 0
Moved index old new s t statuses.Done = (one : Move) × (move_in s.done index ≡ Some one) × (new ≡ one.port) × (t ≡ s)
Moved index old new s t statuses.NoMove = (move_in s.done index ≡ None) × (new ≡ old) × (t ≡ s)
Moved index old new s t _ = ⊥

-- The text of a move's item, if there is one; nothing else changes.
abbrev pub TellsItem : ℕ → Room → Room → Session → Session → CallStatus → Type 0
TellsItem index old new s t statuses.Done = (one : Move) × (move_in s.done index ≡ Some one) × IsLaid (text_at s.connector one.port one.item) old new × (t ≡ s)
TellsItem index old new s t statuses.NoMove = (move_in s.done index ≡ None) × (new ≡ old) × (t ≡ s)
TellsItem index old new s t statuses.NoMemory = (new ≡ old) × (t ≡ s)
TellsItem index old new s t _ = ⊥
