use Rattle.std.proofs.Common.{ℕ, List, [], ◌∷◌, refl}
use Rattle.reo_net_base.specs.declared.port.Port.{Port}
use Rattle.reo_command.specs.declared.claim.ProofClaim.{ProofClaim}
use Rattle.reo_command.specs.declared.reading.CircuitAndScript.{CircuitAndScript}
use Rattle.reo_command.specs.declared.role.Role.TheVariants.{Circuit, Script, Proof}
use Rattle.reo_command.specs.declared.stop.Stop.{Stop}
use Rattle.reo_command.specs.Claims.{IsProofText, NoTextStops, ReadsProof, StopsProof}
use Rattle.reo_command.specs.Fetched.{Content}
use Rattle.reo_command.specs.Readings.{ReadsFile, StopsFile, Runnable, ReadsRun, StopsRun}
use Rattle.reo_command.specs.ReadSteps.{runnable_in, claimed_in}
use Rattle.reo_command.proofs.ClaimLemmas.{claim_first, claim_next, claim_whole}
use Rattle.reo_command.proofs.FetchLemmas.{stopped_first, stopped_next, read_next}
use Rattle.reo_command.proofs.WorkLemmas.{run_all, run_here}
use Rattle.reo_command.proofs.claim.read_proof.Goals as goal

-- What is read, as the code has it.
abbrev First : List Content → CircuitAndScript → Type 0
First answers work = ReadsRun answers (runnable_in work.flat work.script)

abbrev Reads : List Content → ProofClaim → Type 0
Reads answers claim = ReadsProof answers (claimed_in claim.work.flat claim.work.script claim.proof)

abbrev Says : List Port → List ℕ → List ℕ → Type 0
Says ports = IsProofText

abbrev TextStops : List Port → List ℕ → Stop → Type 0
TextStops ports = NoTextStops

pub returns-in-Err-clause-read : goal.returns-in-Err-clause-read
returns-in-Err-clause-read g c =
    stopped_first First StopsRun Reads StopsProof (Circuit ∷ Script ∷ []) (c.args.circuit.now ∷ c.args.script.now ∷ []) Proof c.args.proof.now (claim_first Proof Says TextStops) c.in-Err.stop _ c.in-Err.ensures.read

pub returns-in-Err-read_bytes-clause-read : goal.returns-in-Err-read_bytes-clause-read
returns-in-Err-read_bytes-clause-read g c =
    let read = c.in-Ok.ensures.read in
    let work : Runnable = runnable_in c.in-Ok.work.flat c.in-Ok.work.script in
    stopped_next First StopsRun Reads StopsProof (Circuit ∷ Script ∷ []) (c.args.circuit.now ∷ c.args.script.now ∷ []) Proof c.args.proof.now (ReadsFile IsProofText) (StopsFile Proof NoTextStops) _ _ _ read.answers refl
    (run_all read.answers work read.read) read.fetched read.short (run_here read.answers work read.read) (claim_next Proof Says TextStops work read.answers read.read) c.in-Err-read_bytes.stop c.in-Err-read_bytes.ensures

pub returns-in-Ok-read_bytes-clause-read : goal.returns-in-Ok-read_bytes-clause-read
returns-in-Ok-read_bytes-clause-read g c =
    let read = c.in-Ok.ensures.read in
    let work : Runnable = runnable_in c.in-Ok.work.flat c.in-Ok.work.script in
    read_next First StopsRun Reads StopsProof (Circuit ∷ Script ∷ []) (c.args.circuit.now ∷ c.args.script.now ∷ []) Proof c.args.proof.now (ReadsFile IsProofText) (StopsFile Proof NoTextStops) _ _ _ read.answers refl
    (run_all read.answers work read.read) read.fetched read.short (run_here read.answers work read.read)
    c.in-Ok-read_bytes.proof (record { work = c.in-Ok.work; proof = c.in-Ok-read_bytes.proof }) (λ more said. claim_whole Proof Says TextStops work read.answers read.read more c.in-Ok-read_bytes.proof said) c.in-Ok-read_bytes.ensures
