-- Texts that are said to be of a run: traces, and proofs.
use Rattle.std.specs.Prelude.{ℕ, ◌≡◌, List, [], ◌∷◌}
use Rattle.reo_net_base.specs.declared.port.Port.{Port}
use Rattle.reo_trace_reader.specs.declared.texts.trace.Trace.{Trace}
use Rattle.reo_trace_reader.specs.texts.Texts.{IsTraceText}
use Rattle.reo_command.specs.declared.role.Role.{Role}
use Rattle.reo_command.specs.declared.role.Role.TheVariants as roles
use Rattle.reo_command.specs.declared.refusal.Refusal.{Refusal}
use Rattle.reo_command.specs.declared.stop.Stop.{Stop}
use Rattle.reo_command.specs.declared.stop.Stop.TheVariants.{Refused}
use Rattle.reo_command.specs.Fetched.{Content}
use Rattle.reo_command.specs.Readings.{ReadsFile, StopsFile, Runnable, ReadsRun, StopsRun}
use Rattle.reo_command.specs.Refusals.{RefusesTrace}

-- A circuit with a script, and what is said to be of their run.
pub record Claimed (X : Type 0) : Type 0 where
  pub work : Runnable
  pub claim : X

-- A circuit, a script, and what the text of a third file says for the ports of the circuit.
abbrev pub ReadsBehind : {X : Type 0} → (List Port → List ℕ → X → Type 0) → List Content → Claimed X → Type 0
ReadsBehind Says (circuit ∷ script ∷ third ∷ []) c = ReadsRun (circuit ∷ script ∷ []) c.work × ReadsFile (Says c.work.flat.ports) (third ∷ []) c.claim
ReadsBehind Says _ c = ⊥

-- The circuit or the script stops the command as they stop a run, before the third file is fetched, or that file does.
abbrev pub StopsBehind : Role → (List Port → List ℕ → Stop → Type 0) → List Content → Stop → Type 0
StopsBehind role TextStops (circuit ∷ script ∷ third ∷ []) stop = (r : Runnable) × ReadsRun (circuit ∷ script ∷ []) r × StopsFile role (TextStops r.flat.ports) (third ∷ []) stop
StopsBehind role TextStops answers stop = StopsRun answers stop

-- A text that is no trace for these ports stops a verification.
abbrev pub TraceStops : List Port → List ℕ → Stop → Type 0
TraceStops ports bytes stop = (r : Refusal) × RefusesTrace ports bytes r × (stop ≡ Refused roles.Trace r)

-- The trace in the files of a verification.
abbrev pub ReadsClaim : List Content → Claimed Trace → Type 0
ReadsClaim = ReadsBehind IsTraceText

abbrev pub StopsVerify : List Content → Stop → Type 0
StopsVerify = StopsBehind roles.Trace TraceStops

-- A proof is taken as it stands, whatever it is: what is wrong with it is the verdict on it.
abbrev pub IsProofText : List ℕ → List ℕ → Type 0
IsProofText bytes proof = proof ≡ bytes

abbrev pub NoTextStops : List ℕ → Stop → Type 0
NoTextStops bytes stop = ⊥

-- The proof in the files of the verification of one.
abbrev pub ReadsProof : List Content → Claimed (List ℕ) → Type 0
ReadsProof = ReadsBehind (λ ports. IsProofText)

abbrev pub StopsProof : List Content → Stop → Type 0
StopsProof = StopsBehind roles.Proof (λ ports. NoTextStops)
