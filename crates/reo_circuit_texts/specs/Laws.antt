-- Laws of what the texts of circuits say.
use Rattle.std.specs.Prelude.{◌≡◌, ◌<◌, ◌^◌, ℕ, List, length}
use Rattle.std.specs.List.{All}
use Rattle.reo_trees.specs.declared.programs.Program.{Program}
use Rattle.reo_syntax_laws.specs.trees_laws.Spelled.{IsSpelled}
use Rattle.reo_rules.specs.Scopes.{connectors_of}
use Rattle.reo_flat.specs.flatten_laws.Plain.{HasPlainNames}
use Rattle.reo_circuit_texts.specs.Circuits.{SaysCircuit}

-- The program is spelled as a text or an expansion has it.
abbrev pub CircuitsAreSpelled : Type 0
CircuitsAreSpelled = (text : List ℕ) (p : Program) → SaysCircuit text p → IsSpelled p

-- No name of it has the byte `@`.
abbrev pub CircuitNamesArePlain : Type 0
CircuitNamesArePlain = (text : List ℕ) (p : Program) → length text < 2 ^ 64 → SaysCircuit text p
    → All HasPlainNames (connectors_of p.declarations)

-- It is one.
abbrev pub OneCircuitProgram : Type 0
OneCircuitProgram = (text : List ℕ) (p q : Program) → SaysCircuit text p → SaysCircuit text q → p ≡ q
