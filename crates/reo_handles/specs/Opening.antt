-- Opening a connector from the text of its circuit.
use Rattle.std.specs.Prelude.{ℕ, ◌≡◌, List, Option, Some, None, Ok, Err}
use Rattle.reo_command.specs.Refusals.{refusal_text}
use Rattle.reo_command.specs.declared.refusal.Refusal.{Refusal}
use Rattle.reo_command.specs.declared.role.Role.{Role}
use Rattle.reo_command.specs.declared.stop.Stop.{Stop}
use Rattle.reo_command.specs.declared.stop.Stop.TheVariants as stops
use Rattle.reo_connector.specs.Held.{Held}
use Rattle.reo_connector.specs.Opening.{IsOpened}
use Rattle.reo_handles.specs.Texts.{IsLaid, Room}
use Rattle.reo_handles.specs.declared.session.Session.{Session}
use Rattle.reo_handles.specs.declared.status.CallStatus.{CallStatus}
use Rattle.reo_handles.specs.declared.status.CallStatus.TheVariants as statuses

-- A connector that has made no round.
abbrev pub fresh : Held → Session
fresh c = record { connector = c; done = None }

-- A connector that has made no round is held, or nothing is, for want of memory.
abbrev pub IsHeld : Held → Option Session → CallStatus → Type 0
IsHeld c after statuses.Done = after ≡ Some (fresh c)
IsHeld c after statuses.NoMemory = after ≡ None
IsHeld c after _ = ⊥

-- A refusal is laid into the room, or memory did not suffice for its words.
abbrev pub IsRefusalLaid : Refusal → Room → Room → CallStatus → Type 0
IsRefusalLaid refusal old new statuses.Refused = IsLaid (refusal_text refusal) old new
IsRefusalLaid refusal old new statuses.NoMemory = new ≡ old
IsRefusalLaid refusal old new _ = ⊥

-- What is told of a text that says no circuit.
abbrev pub IsStopped : Stop → Room → Room → CallStatus → Type 0
IsStopped stop old new statuses.Refused = (role : Role) × (refusal : Refusal) × (stop ≡ stops.Refused role refusal) × IsLaid (refusal_text refusal) old new
IsStopped stop old new statuses.TooLong = (role : Role) × (stop ≡ stops.TooLong role) × (new ≡ old)
IsStopped stop old new statuses.NoMemory = new ≡ old
IsStopped stop old new _ = ⊥

-- The connector of the text is open, or nothing is, and why not.
abbrev pub Opens : List ℕ → Room → Room → Option Session → CallStatus → Type 0
Opens text old new after statuses.Done = (c : Held) × IsOpened text (Ok c) × (after ≡ Some (fresh c)) × (new ≡ old)
Opens text old new after statuses.Refused = (role : Role) × (refusal : Refusal) × IsOpened text (Err (stops.Refused role refusal)) × IsLaid (refusal_text refusal) old new × (after ≡ None)
Opens text old new after statuses.TooLong = (role : Role) × IsOpened text (Err (stops.TooLong role)) × (after ≡ None) × (new ≡ old)
Opens text old new after statuses.NoMemory = (after ≡ None) × (new ≡ old)
Opens text old new after _ = ⊥
