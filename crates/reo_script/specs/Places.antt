-- Places of a script that name a port, as code borrows them.
use Rattle.std.specs.Prelude.{◌≡◌, ◌⊎◌, Some, List, [], map, Result, MatchResult, option_map}
use Rattle.std.specs.List.{All}
use Rattle.reo_values.specs.Valid.{AreDistinct}
use Rattle.reo_net_base.specs.declared.port.Port.{Port}
use Rattle.reo_rules.specs.literals.Items.{HasFewNames}
use Rattle.reo_rules.specs.Lists.{first_of}
use Rattle.reo_script.specs.declared.scripts.fault.ScriptFault.{ScriptFault}
use Rattle.reo_script.specs.declared.scripts.fault.ScriptFault.TheVariants as faults
use Rattle.reo_script.specs.scripts.ScriptRules.{Naming}
use Rattle.reo_script.specs.declared.places.PortPlace.{PortPlace as APlace}

-- What a borrowed place says.
abbrev pub naming_of : APlace → Naming
naming_of p = record { line = p.line; port = p.port.now; literal = option_map (λ l. l.now) p.literal }

-- The ports of an accepted circuit, as far as scripts ask: no two of one name, and few symbols.
pub record ArePortsOf (ports : List Port) : Type 0 where
  pub distinct : AreDistinct (map (λ (p : Port). p.name) ports)
  pub few : All (λ (p : Port). HasFewNames p.kindred) ports

-- The fault is the first of these breaks, or out of memory.
abbrev pub IsFirstBreak : List ScriptFault → ScriptFault → Type 0
IsFirstBreak breaks fault = (fault ≡ faults.NoMemory) ⊎ (first_of breaks ≡ Some fault)

-- The answer of a pass that looks for these breaks.
abbrev pub IsJudgedBy : {A : Type 0} → List ScriptFault → Result A ScriptFault → Type 0
IsJudgedBy breaks answer = MatchResult answer (λ _. breaks ≡ []) (IsFirstBreak breaks)
