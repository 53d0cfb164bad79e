-- Ports that are found by their names.
use Rattle.std.specs.Prelude.{ℕ, ◌≡◌, List, None, Some}
use Rattle.reo_script.specs.scripts.ScriptRules.{port_number}
use Rattle.reo_handles.specs.declared.session.Session.{Session}
use Rattle.reo_handles.specs.declared.status.CallStatus.{CallStatus}
use Rattle.reo_handles.specs.declared.status.CallStatus.TheVariants as statuses

-- The number of the port of a name; without one the number stays as it was. Nothing else changes.
abbrev pub Finds : List ℕ → ℕ → ℕ → Session → Session → CallStatus → Type 0
Finds name old new s t statuses.Done = (port_number s.connector.ports name ≡ Some new) × (t ≡ s)
Finds name old new s t statuses.NoPort = (port_number s.connector.ports name ≡ None) × (new ≡ old) × (t ≡ s)
Finds name old new s t _ = ⊥
