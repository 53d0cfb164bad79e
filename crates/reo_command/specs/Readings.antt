-- What commands read in their files: circuits and scripts that are accepted, and what stops a command.
use Rattle.std.specs.Prelude.{ℕ, ◌≡◌, ◌⊎◌, false, List, [], ◌∷◌, Result, Ok, Err}
use Rattle.reo_net_base.specs.declared.port.Port.{Port}
use Rattle.reo_net_base.specs.Net.{Wiring}
use Rattle.reo_kinds.specs.declared.kind.Kind.{Kind}
use Rattle.reo_trees.specs.declared.programs.Program.{Program}
use Rattle.reo_trees.specs.declared.programs_two.AnyProgram.{AnyProgram}
use Rattle.reo_trees.specs.SaysTwo.{SaysAny}
use Rattle.reo_circuit_texts.specs.Circuits.{SaysCircuit}
use Rattle.reo_flat.specs.Flat.{wiring_of_program, ports_of, nodes_of, homes_in}
use Rattle.reo_flat.specs.Refusals.{IsAccepted}
use Rattle.reo_script.specs.declared.scripts.action.Script.{Script}
use Rattle.reo_script.specs.scripts.ScriptAnswers.{Answers}
pub use Rattle.reo_runner.specs.Runs.{CanRun, kind_rules}
use Rattle.reo_command.specs.declared.role.Role.{Role}
use Rattle.reo_command.specs.declared.role.Role.TheVariants as roles
use Rattle.reo_command.specs.declared.refusal.Refusal.{Refusal}
use Rattle.reo_command.specs.declared.stop.Stop.{Stop}
use Rattle.reo_command.specs.declared.stop.Stop.TheVariants.{Refused, NoMemory}
use Rattle.reo_command.specs.Fetched.{Content, text, has_gone, AreFetched, AreShort}
use Rattle.reo_command.specs.Refusals.{RefusesProgram, RefusesExpansion, RefusesCircuit, RefusesScript}
use Rattle.reo_command.specs.States.{FilesState, Change}
use Rattle.reo_command.specs.Stops.{FileStops}

-- A wiring of kinds, its ports as users see them, the names of its nodes, and the number of the node that each joint is at.
pub record FlatCircuit : Type 0 where
  pub wiring : Wiring Kind
  pub ports : List Port
  pub nodes : List (List ℕ)
  pub homes : List ℕ

-- What a program unfolds to.
abbrev pub flat_of : Program → FlatCircuit
flat_of program = record {
  wiring = wiring_of_program program.declarations;
  ports = ports_of program.declarations;
  nodes = nodes_of program.declarations;
  homes = homes_in program.declarations;
}

-- The circuit text is accepted as this circuit: it says a program, or one of version 2 that stands for a program, that breaks no
-- rule, and this is what that unfolds to.
pub record IsCircuitText (bytes : List ℕ) (flat : FlatCircuit) : Type 0 where
  pub program : Program
  pub says : SaysCircuit bytes program
  pub accepted : IsAccepted program
  pub is : flat ≡ flat_of program

-- A circuit text that says no program stops a command.
abbrev pub ProgramStops : List ℕ → Stop → Type 0
ProgramStops bytes stop = (r : Refusal) × RefusesProgram bytes r × (stop ≡ Refused roles.Circuit r)

-- So does, but for a print and an upgrade, one that says a program that stands for none.
abbrev pub ExpansionStops : List ℕ → Stop → Type 0
ExpansionStops bytes stop = (r : Refusal) × RefusesExpansion bytes r × (stop ≡ Refused roles.Circuit r)

abbrev pub UnfoldingStops : List ℕ → Stop → Type 0
UnfoldingStops bytes stop = ProgramStops bytes stop ⊎ ExpansionStops bytes stop

-- And one whose program breaks a rule.
abbrev pub CircuitStops : List ℕ → Stop → Type 0
CircuitStops bytes stop = UnfoldingStops bytes stop ⊎ ((r : Refusal) × RefusesCircuit bytes r × (stop ≡ Refused roles.Circuit r))

-- And a script text that is not accepted for these ports.
abbrev pub ScriptStops : List Port → List ℕ → Stop → Type 0
ScriptStops ports bytes stop = (r : Refusal) × RefusesScript ports bytes r × (stop ≡ Refused roles.Script r)

-- What the text of the one file that is fetched says.
abbrev pub ReadsFile : {X : Type 0} → (List ℕ → X → Type 0) → List Content → X → Type 0
ReadsFile Says (text bytes ∷ []) x = Says bytes x
ReadsFile Says _ x = ⊥

-- The one file that is fetched, or its text, stops a command.
abbrev pub StopsFile : Role → (List ℕ → Stop → Type 0) → List Content → Stop → Type 0
StopsFile role TextStops (file ∷ []) stop = FileStops role TextStops file stop
StopsFile role TextStops _ stop = ⊥

-- A program of either version in the file of a print.
abbrev pub ReadsProgram : List Content → AnyProgram → Type 0
ReadsProgram = ReadsFile SaysAny

abbrev pub StopsPrint : List Content → Stop → Type 0
StopsPrint = StopsFile roles.Circuit ProgramStops

-- A circuit in the file of a check.
abbrev pub ReadsCircuit : List Content → FlatCircuit → Type 0
ReadsCircuit = ReadsFile IsCircuitText

abbrev pub StopsCheck : List Content → Stop → Type 0
StopsCheck = StopsFile roles.Circuit CircuitStops

-- A circuit, and a script for its ports.
pub record Runnable : Type 0 where
  pub flat : FlatCircuit
  pub script : Script

-- A circuit and a script in the two files of a run.
abbrev pub ReadsRun : List Content → Runnable → Type 0
ReadsRun (text circuit ∷ text script ∷ []) r = IsCircuitText circuit r.flat × Answers script r.flat.ports (Ok r.script)
ReadsRun _ r = ⊥

-- The circuit stops it before the script is fetched, or the script does.
abbrev pub StopsRun : List Content → Stop → Type 0
StopsRun (circuit ∷ []) stop = FileStops roles.Circuit CircuitStops circuit stop
StopsRun (text circuit ∷ script ∷ []) stop = (flat : FlatCircuit) × IsCircuitText circuit flat × FileStops roles.Script (ScriptStops flat.ports) script stop
StopsRun _ stop = ⊥

-- What was read, or what stops the command. Out of memory may be answered wherever no file was told to be gone.
abbrev pub IsReadAs : {X : Type 0} → (List Content → X → Type 0) → (List Content → Stop → Type 0) → List Content → Result X Stop → Type 0
IsReadAs Reads Stops answers (Ok x) = Reads answers x
IsReadAs Reads Stops answers (Err NoMemory) = has_gone answers ≡ false
IsReadAs Reads Stops answers (Err stop) = Stops answers stop

-- Files were fetched, and are read so.
pub record IsReadFrom {X : Type 0} (Reads : List Content → X → Type 0) (Stops : List Content → Stop → Type 0) (roles : List Role) (names : List (List ℕ)) (files : Change FilesState) (result : Result X Stop) : Type 0 where
  pub answers : List Content
  pub fetched : AreFetched roles names answers files
  pub short : AreShort answers
  pub read : IsReadAs Reads Stops answers result
