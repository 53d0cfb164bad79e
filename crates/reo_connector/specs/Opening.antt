-- Connectors that texts say.
use Rattle.std.specs.Prelude.{ℕ, ◌≡◌, ◌<◌, ◌≤◌, List, [], ◌∷◌, length, Result, Err, Some}
use Rattle.reo_io.specs.Fetches.{Folder}
use Rattle.reo_flatten.specs.declared.last.Flat.{Flat}
use Rattle.reo_command.specs.ReadSteps.{IsTextRead, circuit_in}
use Rattle.reo_command.specs.Readings.{CircuitStops, FlatCircuit, IsCircuitText}
use Rattle.reo_command.specs.Roles.{most_bytes}
use Rattle.reo_command.specs.declared.role.Role.TheVariants.{Circuit}
use Rattle.reo_command.specs.declared.stop.Stop.{Stop}
use Rattle.reo_command.specs.declared.stop.Stop.TheVariants.{TooLong}
use Rattle.reo_connector.specs.Held.{Held}

-- The one file that there is has this text, and no name.
abbrev pub alone : List ℕ → Folder
alone text = record { files = record { name = []; bytes = text } ∷ []; others = Some [] }

-- A text says a circuit that is accepted, and this is it.
abbrev pub SaysFlat : List ℕ → Flat → Type 0
SaysFlat text flat = IsCircuitText text (circuit_in flat)

-- The flat circuit that a text says, or why it says none.
abbrev pub IsFlatRead : List ℕ → Result Flat Stop → Type 0
IsFlatRead = IsTextRead SaysFlat CircuitStops

-- The connector of a flat circuit that has made no round.
abbrev pub begun : FlatCircuit → Held
begun flat = record { circuit = flat.wiring; ports = flat.ports; rounds = 0 }

-- A text says a circuit that is accepted, of which this is the connector.
abbrev pub SaysConnector : List ℕ → Held → Type 0
SaysConnector text c = (flat : FlatCircuit) × IsCircuitText text flat × (c ≡ begun flat)

-- What opening a text answers: a text that is not too long is read.
pub record IsOpened (text : List ℕ) (result : Result Held Stop) : Type 0 where
  pub read : length text ≤ most_bytes Circuit → IsTextRead SaysConnector CircuitStops text result
  pub long : most_bytes Circuit < length text → result ≡ Err (TooLong Circuit)
