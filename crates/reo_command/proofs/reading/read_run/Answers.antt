use Rattle.std.proofs.Common.{List, [], ◌∷◌, refl}
use Rattle.reo_flatten.specs.declared.last.Flat.{Flat}
use Rattle.reo_command.specs.declared.reading.CircuitAndScript.{CircuitAndScript}
use Rattle.reo_command.specs.declared.role.Role.TheVariants.{Circuit, Script}
use Rattle.reo_command.specs.Fetched.{Content}
use Rattle.reo_command.specs.Readings.{IsCircuitText, CircuitStops, ReadsCircuit, StopsCheck, ReadsRun, StopsRun}
use Rattle.reo_command.specs.ReadSteps.{ReadsScript, StopsScript, circuit_in, runnable_in}
use Rattle.reo_command.proofs.FetchLemmas.{stopped_first, stopped_next, read_next}
use Rattle.reo_command.proofs.ReadLemmas.{file_all, file_here}
use Rattle.reo_command.proofs.WorkLemmas.{run_first, run_next, run_both}
use Rattle.reo_command.proofs.reading.read_run.Goals as goal

-- What is read, as the code has it.
abbrev First : List Content → Flat → Type 0
First answers flat = ReadsCircuit answers (circuit_in flat)

abbrev Reads : List Content → CircuitAndScript → Type 0
Reads answers work = ReadsRun answers (runnable_in work.flat work.script)

pub returns-in-Err-clause-read : goal.returns-in-Err-clause-read
returns-in-Err-clause-read g c = stopped_first First StopsCheck Reads StopsRun (Circuit ∷ []) (c.args.circuit.now ∷ []) Script c.args.script.now run_first c.in-Err.stop _ c.in-Err.ensures.read

pub returns-in-Err-read_components-clause-read : goal.returns-in-Err-read_components-clause-read
returns-in-Err-read_components-clause-read g c =
    let read = c.in-Ok.ensures.read in
    let flat = circuit_in c.in-Ok.flat in
    stopped_next First StopsCheck Reads StopsRun (Circuit ∷ []) (c.args.circuit.now ∷ []) Script c.args.script.now (ReadsScript flat.ports) (StopsScript flat.ports) _ _ _ read.answers refl
    (file_all Circuit IsCircuitText CircuitStops read.answers flat read.read) read.fetched read.short (file_here Circuit IsCircuitText CircuitStops read.answers flat read.read)
    (run_next flat read.answers read.read) c.in-Err-read_components.stop c.in-Err-read_components.ensures.read

pub returns-in-Ok-read_components-clause-read : goal.returns-in-Ok-read_components-clause-read
returns-in-Ok-read_components-clause-read g c =
    let read = c.in-Ok.ensures.read in
    let flat = circuit_in c.in-Ok.flat in
    read_next First StopsCheck Reads StopsRun (Circuit ∷ []) (c.args.circuit.now ∷ []) Script c.args.script.now (ReadsScript flat.ports) (StopsScript flat.ports) _ _ _ read.answers refl
    (file_all Circuit IsCircuitText CircuitStops read.answers flat read.read) read.fetched read.short (file_here Circuit IsCircuitText CircuitStops read.answers flat read.read)
    c.in-Ok-read_components.script (record { flat = c.in-Ok.flat; script = c.in-Ok-read_components.script }) (λ more said. run_both flat read.answers read.read more c.in-Ok-read_components.script said) c.in-Ok-read_components.ensures.read
