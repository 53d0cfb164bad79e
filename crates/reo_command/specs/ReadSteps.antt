-- Steps of reading circuits, scripts and traces.
use Rattle.std.specs.Prelude.{ℕ, ◌≡◌, List, [], ◌∷◌, Result, Ok, Err, Option, Some, length, map}
use Rattle.reo_net_base.specs.Net.{Wiring}
use Rattle.reo_net_base.specs.declared.port.Port.{Port}
use Rattle.reo_kinds.specs.declared.kind.Kind.{Kind}
use Rattle.reo_kinds.specs.Kinds.{port_state_of}
use Rattle.reo_flatten.specs.declared.last.Flat.{Flat}
use Rattle.reo_runs.specs.run_premises.PortsOf.{HasPorts, AreFree}
use Rattle.reo_script.specs.Places.{ArePortsOf}
use Rattle.reo_script.specs.declared.scripts.action.Script.{Script}
use Rattle.reo_script.specs.scripts.ScriptAnswers.{Answers}
use Rattle.reo_trace_reader.specs.declared.texts.trace.Trace.{Trace}
use Rattle.reo_trace_reader.specs.texts.Lines.{AreTold}
use Rattle.reo_trace_reader.specs.texts.Texts.{IsTraceText}
use Rattle.reo_command.specs.declared.refusal.Refusal.{Refusal}
use Rattle.reo_command.specs.declared.role.Role.{Role}
use Rattle.reo_command.specs.declared.role.Role.TheVariants as roles
use Rattle.reo_command.specs.declared.stop.Stop.{Stop}
use Rattle.reo_command.specs.declared.stop.Stop.TheVariants.{Missed, TooLong, Refused, NoMemory}
use Rattle.reo_trees.specs.declared.programs.Program.{Program}
use Rattle.reo_trees.specs.declared.programs_two.ProgramTwo.{ProgramTwo}
use Rattle.reo_expand.specs.declared.base.fault.ExpandFault.{ExpandFault}
use Rattle.reo_expand.specs.base.Steps.{IsExpanded, walk_of}
use Rattle.reo_command.specs.Refusals.{expand_refusal}
use Rattle.reo_command.specs.Claims.{Claimed, IsProofText, NoTextStops, TraceStops}
use Rattle.reo_command.specs.Fetched.{Content}
use Rattle.reo_command.specs.Readings.{FlatCircuit, Runnable, ScriptStops, ReadsFile, StopsFile, IsReadFrom}
use Rattle.reo_command.specs.States.{FilesState, Change}

-- The stop is this refusal of the text of a file, or memory ran out.
abbrev pub IsRefusalOf : Role → Option Refusal → Stop → Type 0
IsRefusalOf role wanted (Missed other) = ⊥
IsRefusalOf role wanted (TooLong other) = ⊥
IsRefusalOf role wanted (Refused other refusal) = (other ≡ role) × (wanted ≡ Some refusal)
IsRefusalOf role wanted NoMemory = Unit {0}

-- One of these stops a command, or memory ran out.
abbrev pub IsStoppedBy : (Stop → Type 0) → Stop → Type 0
IsStoppedBy Stops NoMemory = Unit {0}
IsStoppedBy Stops stop = Stops stop

-- What a program of version 2 stands for, or its first refusal, or memory ran out.
abbrev pub IsExpandedAs : ProgramTwo → Result Program Stop → Type 0
IsExpandedAs p (Ok q) = IsExpanded p q
IsExpandedAs p (Err stop) = IsStoppedBy (λ (s : Stop). (r : Refusal) × (fault : ExpandFault) × (walk_of p ≡ Err fault) × (expand_refusal fault ≡ Some r) × (s ≡ Refused roles.Circuit r)) stop

-- What a text says, or what stops a command for it.
abbrev pub IsTextRead : {X : Type 0} → (List ℕ → X → Type 0) → (List ℕ → Stop → Type 0) → List ℕ → Result X Stop → Type 0
IsTextRead Says TextStops bytes (Ok x) = Says bytes x
IsTextRead Says TextStops bytes (Err stop) = IsStoppedBy (TextStops bytes) stop

-- A flat circuit, as what its text is accepted as.
abbrev pub circuit_in : Flat → FlatCircuit
circuit_in flat = record { wiring = flat.circuit; ports = flat.ports.list; nodes = flat.nodes; homes = flat.homes }

-- And with a script.
abbrev pub runnable_in : Flat → Script → Runnable
runnable_in flat script = record { flat = circuit_in flat; script = script }

-- What scripts and runs ask of the ports of a circuit.
pub record HasItsPorts (w : Wiring Kind) (ports : List Port) : Type 0 where
  pub count : w.ports ≡ length ports
  pub has : HasPorts (map port_state_of w.primitives) ports
  pub free : AreFree (map port_state_of w.primitives)
  pub names : ArePortsOf ports
  pub told : AreTold ports

-- A script for these ports, in its one file.
abbrev pub ReadsScript : List Port → List Content → Script → Type 0
ReadsScript ports = ReadsFile (λ bytes script. Answers bytes ports (Ok script))

abbrev pub StopsScript : List Port → List Content → Stop → Type 0
StopsScript ports = StopsFile roles.Script (ScriptStops ports)

-- The file of a script was fetched, and is read so.
abbrev pub IsScriptRead : List Port → List (List ℕ) → Change FilesState → Result Script Stop → Type 0
IsScriptRead ports names files result = IsReadFrom (ReadsScript ports) (StopsScript ports) (roles.Script ∷ []) names files result

-- With what is said to be of their run.
abbrev pub claimed_in : {X : Type 0} → Flat → Script → X → Claimed X
claimed_in flat script claim = record { work = runnable_in flat script; claim = claim }

-- The file of a trace was fetched, and is read so.
abbrev pub IsTraceRead : List Port → List (List ℕ) → Change FilesState → Result Trace Stop → Type 0
IsTraceRead ports names files result =
    IsReadFrom (ReadsFile (IsTraceText ports)) (StopsFile roles.Trace (TraceStops ports)) (roles.Trace ∷ []) names files result

-- The file of a proof was fetched.
abbrev pub IsProofRead : List (List ℕ) → Change FilesState → Result (List ℕ) Stop → Type 0
IsProofRead names files result = IsReadFrom (ReadsFile IsProofText) (StopsFile roles.Proof NoTextStops) (roles.Proof ∷ []) names files result
