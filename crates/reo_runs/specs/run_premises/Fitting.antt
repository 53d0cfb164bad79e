-- Actions that fit the ports of a circuit.
use Rattle.std.specs.Prelude.{ℕ, ◌≡◌, ◌==◌, Bool, true, false, Some, Ok, List, [], slice_get, slice_index_or, map}
use Rattle.std.specs.List.{All, list_any}
use Rattle.std.specs.Option.{option_map_or}
use Rattle.reo_values.specs.Kind.{is_item}
use Rattle.reo_net_base.specs.declared.port.Port.{Port}
use Rattle.reo_net_base.specs.declared.port.Way.TheVariants.{In, Out}
use Rattle.reo_script.specs.declared.scripts.action.Script.{Script}
use Rattle.reo_script.specs.scripts.ScriptAnswers.{Answers}
use Rattle.reo_players.specs.Written.{Task, written_out}
use Rattle.reo_players.specs.Written.Task.{writes, takes, rests}
use Rattle.reo_players.specs.Players.{port_of}

-- An item of the port's type is written where items go in, and one is taken where they go out.
abbrev pub FitsPorts : List Port → Task → Type 0
FitsPorts ports (writes port item within) = (p : Port) × (slice_get ports port ≡ Some p) × (p.way ≡ In) × (is_item item p.kindred ≡ true)
FitsPorts ports (takes port within) = (p : Port) × (slice_get ports port ≡ Some p) × (p.way ≡ Out)
FitsPorts ports (rests rounds) = Unit {0}

-- Whether an action names a port.
abbrev pub names : ℕ → Task → Bool
names port t = option_map_or (λ n. n == port) (port_of t) false

-- Whether some action of a list of this number names a port.
abbrev pub names_in : List (List Task) → ℕ → ℕ → Bool
names_in lists port i = list_any (names port) (slice_index_or lists i [])

-- Lists of actions that fit the ports, no port being named in two of them.
pub record FitPorts (ports : List Port) (lists : List (List Task)) : Type 0 where
  pub each : All (All (FitsPorts ports)) lists
  pub apart : (port i j : ℕ) → names_in lists port i ≡ true → names_in lists port j ≡ true → i ≡ j

-- The actions of a script that is read for ports, written out, fit these ports.
abbrev pub ScriptsFit : Type 0
ScriptsFit = (text : List ℕ) (ports : List Port) (script : Script) → Answers text ports (Ok script) → FitPorts ports (map written_out script.components)
