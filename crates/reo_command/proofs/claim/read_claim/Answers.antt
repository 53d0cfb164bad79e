use Rattle.std.proofs.Common.{List, [], ◌∷◌, refl}
use Rattle.reo_trace_reader.specs.texts.Texts.{IsTraceText}
use Rattle.reo_command.specs.declared.claim.Claim.{Claim}
use Rattle.reo_command.specs.declared.reading.CircuitAndScript.{CircuitAndScript}
use Rattle.reo_command.specs.declared.role.Role.TheVariants.{Circuit, Script, Trace}
use Rattle.reo_command.specs.Claims.{TraceStops, ReadsClaim, StopsVerify}
use Rattle.reo_command.specs.Fetched.{Content}
use Rattle.reo_command.specs.Readings.{ReadsFile, StopsFile, Runnable, ReadsRun, StopsRun}
use Rattle.reo_command.specs.ReadSteps.{runnable_in, claimed_in}
use Rattle.reo_command.proofs.ClaimLemmas.{claim_first, claim_next, claim_whole}
use Rattle.reo_command.proofs.FetchLemmas.{stopped_first, stopped_next, read_next}
use Rattle.reo_command.proofs.WorkLemmas.{run_all, run_here}
use Rattle.reo_command.proofs.claim.read_claim.Goals as goal

-- What is read, as the code has it.
abbrev First : List Content → CircuitAndScript → Type 0
First answers work = ReadsRun answers (runnable_in work.flat work.script)

abbrev Reads : List Content → Claim → Type 0
Reads answers claim = ReadsClaim answers (claimed_in claim.work.flat claim.work.script claim.trace)

pub returns-in-Err-clause-read : goal.returns-in-Err-clause-read
returns-in-Err-clause-read g c =
    stopped_first First StopsRun Reads StopsVerify (Circuit ∷ Script ∷ []) (c.args.circuit.now ∷ c.args.script.now ∷ []) Trace c.args.trace.now (claim_first Trace IsTraceText TraceStops) c.in-Err.stop _ c.in-Err.ensures.read

pub returns-in-Err-read_lines-clause-read : goal.returns-in-Err-read_lines-clause-read
returns-in-Err-read_lines-clause-read g c =
    let read = c.in-Ok.ensures.read in
    let work : Runnable = runnable_in c.in-Ok.work.flat c.in-Ok.work.script in
    stopped_next First StopsRun Reads StopsVerify (Circuit ∷ Script ∷ []) (c.args.circuit.now ∷ c.args.script.now ∷ []) Trace c.args.trace.now (ReadsFile (IsTraceText work.flat.ports)) (StopsFile Trace (TraceStops work.flat.ports)) _ _ _ read.answers refl
    (run_all read.answers work read.read) read.fetched read.short (run_here read.answers work read.read) (claim_next Trace IsTraceText TraceStops work read.answers read.read) c.in-Err-read_lines.stop c.in-Err-read_lines.ensures.read

pub returns-in-Ok-read_lines-clause-read : goal.returns-in-Ok-read_lines-clause-read
returns-in-Ok-read_lines-clause-read g c =
    let read = c.in-Ok.ensures.read in
    let work : Runnable = runnable_in c.in-Ok.work.flat c.in-Ok.work.script in
    read_next First StopsRun Reads StopsVerify (Circuit ∷ Script ∷ []) (c.args.circuit.now ∷ c.args.script.now ∷ []) Trace c.args.trace.now (ReadsFile (IsTraceText work.flat.ports)) (StopsFile Trace (TraceStops work.flat.ports)) _ _ _ read.answers refl
    (run_all read.answers work read.read) read.fetched read.short (run_here read.answers work read.read)
    c.in-Ok-read_lines.trace (record { work = c.in-Ok.work; trace = c.in-Ok-read_lines.trace }) (λ more said. claim_whole Trace IsTraceText TraceStops work read.answers read.read more c.in-Ok-read_lines.trace said) c.in-Ok-read_lines.ensures.read
